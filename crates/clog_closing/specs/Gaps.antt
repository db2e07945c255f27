-- Entries of a log that a marker parts: between them no entry has a byte of it.
use Rattle.std.specs.Prelude.{◌≡◌, ◌⊎◌, ℕ, ◌≤◌, List}
use Rattle.std.specs.List.{Contains}
use Rattle.path_core.specs.declared.note.EntryNote.{EntryNote}
use Rattle.path_core.specs.Keys.{after}

-- Between two keys there is one at which no entry has a byte of a marker: each ends at or below it,
-- or starts where the log goes on behind a marker there, or above.
pub record HasGap (capacity : ℕ) (notes : List EntryNote) (from to : ℕ) : Type 0 where
  pub key : ℕ
  pub behind : from ≤ key
  pub before : after capacity key ≤ to
  pub bare : (n : EntryNote) → Contains notes n
      → (n.end.0 ≤ key) ⊎ (after capacity key ≤ n.start.0)

-- So between each two entries of one writer.
abbrev pub StandApart : ℕ → List EntryNote → Type 0
StandApart capacity notes = (n m : EntryNote) → Contains notes n → Contains notes m
    → n.writer.0 ≡ m.writer.0 → n.end.0 ≤ m.start.0 → HasGap capacity notes n.end.0 m.start.0
