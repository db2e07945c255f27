-- What is counted of a store: of its entries, its table files and the segments that it dropped,
-- each once, what decides which segments may go.
use Rattle.std.specs.Prelude.{
  ◌≡◌,
  ◌↔◌,
  ℕ,
  ◌+◌,
  ◌<◌,
  ◌≤◌,
  List,
  [],
  ◌∷◌,
  length,
  take,
  drop,
  Option,
  Some,
  None,
  Contains,
  ⊤,
}
use Rattle.clog_spec.specs.Sizes.{most_tables}
use Rattle.clog_base.specs.Positions.{ordinal_of}
use Rattle.path_core.specs.declared.note.EntryNote.{EntryNote}
use Rattle.path_core.specs.Keeper.{PutFile}
use Rattle.clog_due.specs.declared.counted.Counted.{Counted}
use Rattle.clog_due.specs.declared.table_log.TableLog.{TableLog}
use Rattle.clog_due.specs.Dropping.{AreClean, AreHulls, HasEntry}

-- one of the entries is of the segment of this ordinal, which is none of those that have gone
abbrev pub IsThere : List EntryNote → List ℕ → ℕ → Type 0
IsThere notes gone o = HasEntry notes o × (Contains gone o → ⊥)

-- a table's part of the log, by the entries and by the files
pub record IsTableOf (t : ℕ) (notes : List EntryNote) (files : List PutFile) (log : TableLog)
    : Type 0 where
  pub table_is : log.table.0 ≡ t
  pub low : t < most_tables
  pub hulls : AreHulls t notes log.hulls
  pub clean : AreClean t files log.cleans.intervals

-- those of the tables from one number to another, the last excluded
abbrev pub AreTables : ℕ → ℕ → List EntryNote → List PutFile → List TableLog → Type 0
AreTables from to notes files [] = from ≡ to
AreTables from to notes files (log ∷ logs) =
    IsTableOf from notes files log × AreTables (from + 1) to notes files logs

-- All of these entries, files and dropped segments are counted.
pub record IsAllCounted (notes : List EntryNote) (files : List PutFile) (dropped : List ℕ)
    (c : Counted) : Type 0 where
  pub entries_are : c.entries ≡ length notes
  pub files_are : c.files ≡ length files
  pub dropped_are : c.dropped ≡ length dropped
  pub held : (o : ℕ) → Contains c.held.items o ↔ IsThere notes dropped o
  pub tables : AreTables 0 most_tables notes files c.tables.items

-- The first of them are counted, and no further entry is of a segment that is counted as dropped.
pub record IsCounted (notes : List EntryNote) (files : List PutFile) (dropped : List ℕ)
    (c : Counted) : Type 0 where
  pub few_entries : c.entries ≤ length notes
  pub few_files : c.files ≤ length files
  pub few_dropped : c.dropped ≤ length dropped
  pub held : (o : ℕ) → Contains c.held.items o
      ↔ IsThere (take c.entries notes) (take c.dropped dropped) o
  pub tables : AreTables 0 most_tables (take c.entries notes) (take c.files files) c.tables.items
  pub later : (n : EntryNote) → Contains (drop c.entries notes) n
      → Contains (take c.dropped dropped) (ordinal_of n.start.0) → ⊥

-- what was counted, where something was
abbrev pub IsCountedIn : List EntryNote → List PutFile → List ℕ → Option Counted → Type 0
IsCountedIn notes files dropped None = ⊤
IsCountedIn notes files dropped (Some c) = IsCounted notes files dropped c
