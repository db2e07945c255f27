-- Changes of a folder that keep what it restores, or add to it: a segment gains entries, a segment
-- goes for all of whose cells table files stand, and a table file comes that is true.
use Rattle.std.specs.Prelude.{◌≡◌, ℕ, ◌<◌, ◌^◌, List, ◌++◌, Contains}
use Rattle.clog_spec.specs.Names.{segment_name_of, table_name_of, IsTableName}
use Rattle.clog_base.specs.declared.cell.Cell.{Cell}
use Rattle.clog_base.specs.declared.cell.CellKey.{CellKey}
use Rattle.clog_base.specs.declared.cell.Table.{Table}
use Rattle.clog_scan.specs.Segment.{Entry}
use Rattle.clog_table.specs.declared.table_file.TableFile.{TableFile}
use Rattle.clog_table.specs.Refusals.{IsFileOf}
use Rattle.clog_crash.specs.Covering.{Covers}
use Rattle.clog_crash.specs.Readings.{
  Reading,
  IsLoggedIn,
  IsSkippedIn,
  IsCellOf,
  IsLoggedCellIn,
  RestoresIn,
}
use Rattle.clog_crash.specs.Restore.{IsInInterval, end_position}

-- ---- a reading r becomes a reading q

-- they differ at one name at most
abbrev pub DiffersAt : List ℕ → Reading → Reading → Type 0
DiffersAt name r q = (other : List ℕ) → (other ≡ name → ⊥) → q other ≡ r other

-- A segment has gained entries, which no table file stands for.
pub record Gains (r q : Reading) (id : ℕ) (extra : List Entry) : Type 0 where
  pub fits : id < 2 ^ 63
  pub others : DiffersAt (segment_name_of 6 id) r q
  pub old : List Entry
  pub was : (entry : Entry) → IsLoggedIn r id entry → Contains old entry
  pub stays : (entry : Entry) → Contains old entry → IsLoggedIn r id entry
  pub now : (entry : Entry) → IsLoggedIn q id entry → Contains (old ++ extra) entry
  pub holds : (entry : Entry) → Contains (old ++ extra) entry → IsLoggedIn q id entry
  pub live : (entry : Entry) → Contains extra entry → (table : Table)
      → ¬ IsSkippedIn r table (end_position id entry)

-- for each cell that the segment's entries write a table file stands
abbrev pub AreCovered : Reading → ℕ → Type 0
AreCovered r id = (entry : Entry) → IsLoggedIn r id entry → (pair : CellKey × Cell)
    → IsCellOf entry pair → IsSkippedIn r pair.0.table (end_position id entry)

-- A segment is gone, for all of whose cells table files stand.
pub record Loses (r q : Reading) (id : ℕ) : Type 0 where
  pub fits : id < 2 ^ 63
  pub others : DiffersAt (segment_name_of 6 id) r q
  pub none : (entry : Entry) → ¬ IsLoggedIn q id entry
  pub covered : AreCovered r id

-- a cell of the file's table that the log restores within the file's interval
pub record IsLiveInside (r : Reading) (file : TableFile) (pair : CellKey × Cell) : Type 0 where
  pub cell : IsLoggedCellIn r pair
  pub same_table : file.table ≡ pair.0.table
  pub inside : IsInInterval file (end_position cell.id cell.entry)

-- A table file that is true: it covers what the log restores within its interval, and has no cell
-- that is newer than what is restored anyway.
pub record IsTrueOf (r : Reading) (file : TableFile) : Type 0 where
  pub covers : Covers (IsLiveInside r file) (Contains file.cells)
  pub no_more : Covers (Contains file.cells) (RestoresIn r)

-- A true table file has come where none was.
pub record Puts (r q : Reading) (file : TableFile) (sequence : ℕ) : Type 0 where
  pub named : IsTableName (table_name_of file.table.0 sequence) file.table.0 sequence
  pub others : DiffersAt (table_name_of file.table.0 sequence) r q
  pub spelled : IsFileOf file.table (q (table_name_of file.table.0 sequence)) file
  pub free :
      (other : TableFile) → ¬ IsFileOf other.table (r (table_name_of file.table.0 sequence)) other
  pub is_true : IsTrueOf r file
