-- Where the notes of a log end.
use Rattle.std.specs.Prelude.{ℕ, List, [], ◌∷◌}
use Rattle.path_core.specs.declared.note.EntryNote.{EntryNote}

-- the key at which notes end, which begin behind a key
abbrev pub end_behind : ℕ → List EntryNote → ℕ
end_behind key [] = key
end_behind key (n ∷ ns) = end_behind n.end.0 ns

-- the key behind the last of notes that are the whole log, 0 where there is none
abbrev pub synced_to : List EntryNote → ℕ
synced_to [] = 0
synced_to (n ∷ ns) = end_behind n.end.0 ns
