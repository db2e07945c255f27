-- What a write puts into the log, and when its memory is all taken.
use Rattle.std.specs.Prelude.{
  ◌≡◌,
  ℕ,
  ◌+◌,
  ◌<◌,
  ◌≤◌,
  ◌^◌,
  List,
  [],
  ◌∷◌,
  map,
  Result,
  Ok,
  Err,
}
use Rattle.std.specs.List.{filter, range_with_len}
use Rattle.clog_base.specs.declared.cell.Writer.{Writer}
use Rattle.clog_base.specs.declared.position.Key.{Key}
use Rattle.clog_base.specs.declared.sizes.Sizes.{Sizes}
use Rattle.clog_mutation.specs.declared.mutation.Mutation.{Mutation}
use Rattle.clog_mutation.specs.Limits.{IsWithinLimits}
use Rattle.clog_spec.specs.Sizes.{most_tables}
use Rattle.path_core.specs.declared.note.EntryNote.{EntryNote}
use Rattle.path_core.specs.Parts.{touches}
use Rattle.path_core.specs.Whole.{IsWhole, Updates}
pub use Rattle.clog_notes.specs.Entries.{
  HoldsTables,
  IsNoteOf,
  IsTooLarge,
  entry_limit,
  entry_size,
}
use Rattle.write_path.specs.declared.fault.PrepareFault.{PrepareFault}
use Rattle.write_path.specs.declared.fault.PrepareFault.TheVariants.{TooLarge, OutOfMemory}
use Rattle.write_path.specs.declared.prepared.Prepared.{Prepared}

-- Each table that the mutation updates is below a number.
abbrev pub TablesBelow : Mutation → ℕ → Type 0
TablesBelow m n = (t : ℕ) → Updates m t → t < n

-- the tables of a set, bit t for table t, in ascending order
abbrev pub tables_in : ℕ → List ℕ
tables_in tables = filter (λ t. touches tables t) (range_with_len 0 most_tables)

-- a copy of a note for each of its tables, in their order
abbrev pub copies_of : EntryNote → List EntryNote
copies_of n = map (λ (t : ℕ). n) (tables_in n.tables)

-- the note says that a writer claimed it from one key to another
abbrev pub said : Key → Key → Writer → EntryNote → EntryNote
said start end writer n = record n { start = start; end = end; writer = writer }

-- All of the memory of a write is taken, for a path of these sizes: it holds the node of its one
-- note, and those of a copy for each of the tables that the mutation updates.
pub record IsPrepared (sizes : Sizes) (line : ℕ) (m : Mutation) (p : Prepared) : Type 0 where
  pub note : EntryNote
  pub one : p.notes ≡ note ∷ []
  pub of : IsNoteOf line m note
  pub copies : p.updates ≡ copies_of note
  pub size : p.size ≡ entry_size m
  pub limits : IsWithinLimits m
  pub fits : entry_size m ≤ entry_limit sizes.capacity
  pub below : TablesBelow m sizes.tables

-- Its note says that a writer claimed it from a key on, and so do the copies.
pub record IsClaimed (sizes : Sizes) (line : ℕ) (m : Mutation) (start writer : ℕ)
    (p : Prepared) : Type 0 where
  pub prepared : IsPrepared sizes line m p
  pub begins : prepared.note.start.0 ≡ start
  pub ends : prepared.note.end.0 ≡ start + entry_size m
  pub by : prepared.note.writer.0 ≡ writer

-- A note may be deposited on a path of so many tables: it is whole, and of those tables.
pub record IsDepositable (tables : ℕ) (n : EntryNote) : Type 0 where
  pub whole : IsWhole n
  pub below : n.tables < 2 ^ tables

-- ---- what preparing answers

-- Memory is asked for only where the entry is not too large.
abbrev pub Refuses : ℕ → Mutation → PrepareFault → Type 0
Refuses capacity m (TooLarge size max) = IsTooLarge capacity m size max
Refuses capacity m OutOfMemory = entry_size m ≤ entry_limit capacity

abbrev pub Prepares : Sizes → ℕ → Mutation → Result Prepared PrepareFault → Type 0
Prepares sizes line m (Ok p) = IsPrepared sizes line m p
Prepares sizes line m (Err e) = Refuses sizes.capacity m e
