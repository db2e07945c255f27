-- Notes of entries as lines that are logged: what each says, and where it stands.
use Rattle.std.specs.Prelude.{◌≡◌, ◌↔◌, ℕ, ◌+◌, ◌<◌, List, [], ◌∷◌, length, IsTrue, ⊤}
use Rattle.clog_spec.specs.Segment.{entry_bytes}
use Rattle.clog_mutation.specs.declared.mutation.Mutation.{Mutation}
use Rattle.clog_mutation.specs.Limits.{IsWithinLimits}
use Rattle.clog_mutation.specs.Payload.{payload_of}
use Rattle.clog_mutation.specs.Stored.{IsStored}
use Rattle.path_core.specs.declared.note.EntryNote.{EntryNote}
use Rattle.path_core.specs.Keys.{offset_of, ordinal_of}
use Rattle.path_core.specs.Parts.{touches}
use Rattle.path_core.specs.Whole.{Updates}
use Rattle.clog_applied.specs.History.{LoggedLine}

-- The note is the one of a logged line, where the segment of ordinal 0 has the id `base`.
pub record IsNoteOf (base : ℕ) (n : EntryNote) (w : LoggedLine) : Type 0 where
  pub writer : w.writer ≡ n.writer.0
  pub number : w.number ≡ n.line
  pub id : w.id ≡ base + ordinal_of n.start.0
  pub start : w.start ≡ offset_of n.start.0
  pub end : w.end ≡ w.start + length n.bytes
  pub bytes : n.bytes ≡ entry_bytes (payload_of w.mutation)
  pub stored : IsStored w.mutation
  pub tables : (t : ℕ) → IsTrue (touches n.tables t) ↔ Updates w.mutation t

-- these are the notes of a history, one by one
abbrev pub AreNotesOf : ℕ → List EntryNote → List LoggedLine → Type 0
AreNotesOf base [] [] = ⊤
AreNotesOf base [] (w ∷ ws) = ⊥
AreNotesOf base (n ∷ ns) [] = ⊥
AreNotesOf base (n ∷ ns) (w ∷ ws) = IsNoteOf base n w × AreNotesOf base ns ws

-- The note, wherever it stands, has the entry of a mutation, and its tables.
pub record IsEntryOf (m : Mutation) (n : EntryNote) : Type 0 where
  pub limits : IsWithinLimits m
  pub stored : IsStored m
  pub bytes : n.bytes ≡ entry_bytes (payload_of m)
  pub tables : (t : ℕ) → IsTrue (touches n.tables t) ↔ Updates m t
  pub some_table : 0 < n.tables

-- the notes have the entries of these mutations, one by one
abbrev pub AreEntriesOf : List Mutation → List EntryNote → Type 0
AreEntriesOf [] [] = ⊤
AreEntriesOf [] (n ∷ ns) = ⊥
AreEntriesOf (m ∷ ms) [] = ⊥
AreEntriesOf (m ∷ ms) (n ∷ ns) = IsEntryOf m n × AreEntriesOf ms ns
