-- The table files of a run, and what they say.
use Rattle.std.specs.Prelude.{
  ◌≡◌,
  ◌⊎◌,
  ℕ,
  ◌<◌,
  ◌≤◌,
  ◌==◌,
  Bool,
  false,
  List,
  [],
  ◌∷◌,
  Contains,
  Some,
  None,
  ⊤,
}
use Rattle.std.specs.FinMap as finmap
use Rattle.std.specs.List.{filter, AllPairs}
use Rattle.clog_spec.specs.Names.{
  IsTableName,
  archive_name_of,
  segment_name_of,
  table_name_of,
}
use Rattle.clog_base.specs.declared.cell.Cell.{Cell}
use Rattle.clog_base.specs.declared.cell.CellKey.{CellKey}
use Rattle.clog_base.specs.declared.cell.Table.{Table}
use Rattle.clog_base.specs.declared.position.Position.{Position}
use Rattle.clog_base.specs.Positions.{IsUpTo}
use Rattle.clog_cells.specs.Merge.{IsMergeOf}
use Rattle.clog_disk.specs.Files.{Files, bytes_at}
use Rattle.clog_mutation.specs.Payload.{cells_of}
use Rattle.clog_table.specs.declared.table_file.TableFile.{TableFile}
use Rattle.clog_table.specs.Refusals.{IsFileOf}
use Rattle.clog_crash.specs.Droppable.{Touches}
use Rattle.clog_crash.specs.Folder.{IsHeld, IsNameOfSegment}
use Rattle.clog_crash.specs.Readings.{IsTableIn}
use Rattle.clog_crash.specs.Recovery.{NamesAny}
use Rattle.clog_crash.specs.Restore.{IsInInterval}
use Rattle.clog_applied.specs.History.{LoggedLine, entry_of, logged_at}

-- ---- what a folder names and holds

-- the id is above each that the folder names
abbrev pub IsAbove : Files → ℕ → Type 0
IsAbove files id = (other : ℕ) → NamesAny files other → other < id

-- each file whose name is not that of a segment stands as it was
abbrev pub KeepsOthers : Files → Files → Type 0
KeepsOthers before now = (name bytes : List ℕ) → ¬ IsNameOfSegment name
    → finmap.get before name ≡ Some bytes → finmap.get now name ≡ Some bytes

-- the name of a segment of these ids, its archive name, or one that table files have
abbrev pub IsNewName : List ℕ → List ℕ → Type 0
IsNewName ids name =
    ((id : ℕ) × Contains ids id × (name ≡ segment_name_of 6 id))
    ⊎ (((id : ℕ) × Contains ids id × (name ≡ archive_name_of id))
    ⊎ ((table : ℕ) × (sequence : ℕ) × IsTableName name table sequence))

-- No other name has come.
abbrev pub BringsNoOther : List ℕ → Files → Files → Type 0
BringsNoOther ids before now =
    (name : List ℕ) → finmap.get before name ≡ None → IsHeld now name → IsNewName ids name

-- ---- files one behind the other

abbrev pub is_of : Table → TableFile → Bool
is_of table file = file.table.0 == table.0

-- those of a table, in their order
abbrev pub files_of : Table → List TableFile → List TableFile
files_of table files = filter (is_of table) files

-- each begins where the one before it ends, the first at a position
abbrev pub FollowFrom : Position → List TableFile → Type 0
FollowFrom at [] = ⊤
FollowFrom at (f ∷ fs) = (f.lower ≡ at) × IsUpTo f.lower f.upper × FollowFrom f.upper fs

-- where the last one ends, a position where there is none
abbrev pub last_upper : Position → List TableFile → Position
last_upper at [] = at
last_upper at (f ∷ fs) = last_upper f.upper fs

-- the first position of a run
abbrev pub first_of : ℕ → Position
first_of base = record { id = base; offset = 0 }

-- ---- what they say

-- a cell of the file's table that an entry within the file's interval writes
pub record IsCellWithin (history : List LoggedLine) (file : TableFile) (pair : CellKey × Cell)
    : Type 0 where
  pub line : LoggedLine
  pub listed : Contains history line
  pub inside : IsInInterval file (logged_at line)
  pub cell : Contains (cells_of line.mutation) pair
  pub same_table : pair.0.table ≡ file.table

-- its cells are the merge of what its table has in the history within its interval
abbrev pub IsTrueFor : List LoggedLine → TableFile → Type 0
IsTrueFor history file = IsMergeOf (IsCellWithin history file) file.cells

-- It stands for something: an entry that touches its table lies in its interval.
pub record HoldsSome (history : List LoggedLine) (file : TableFile) : Type 0 where
  pub line : LoggedLine
  pub listed : Contains history line
  pub touches : Touches (entry_of line) file.table
  pub inside : IsInInterval file (logged_at line)

-- one file of the table holds the position, and no other one
pub record IsInOne (files : List TableFile) (table : Table) (at : Position) : Type 0 where
  pub file : TableFile
  pub listed : Contains (files_of table files) file
  pub inside : IsInInterval file at
  pub one : (other : TableFile) → Contains (files_of table files) other → IsInInterval other at
      → other ≡ file

-- wherever two files stand under names of table files, the sequence of the first is less
abbrev pub StandsBefore : Files → TableFile → TableFile → Type 0
StandsBefore after one other = (first second : ℕ)
    → IsTableName (table_name_of one.table.0 first) one.table.0 first
    → IsTableName (table_name_of other.table.0 second) other.table.0 second
    → IsFileOf one.table (bytes_at after (table_name_of one.table.0 first)) one
    → IsFileOf other.table (bytes_at after (table_name_of other.table.0 second)) other
    → first < second

-- These are the table files that end above all ids of before, each table's in the order of their
-- sequences.
pub record AreRunFiles (before after : Files) (files : List TableFile) : Type 0 where
  pub each : (file : TableFile) → Contains files file
      → IsTableIn (bytes_at after) file × IsAbove before file.upper.id
  pub every : (file : TableFile) → IsTableIn (bytes_at after) file → IsAbove before file.upper.id
      → Contains files file
  pub rise : (table : Table) → AllPairs (StandsBefore after) (files_of table files)

-- The run's table files follow one another from one position for all tables, which is above all ids
-- of before, and not above those of the run's segments. They are true, and each entry up to the end
-- of a table's last one lies in exactly one. None of them stands for nothing, and a run that does
-- not flush has none.
pub record TableFilesAreTrue (flushes : Bool) (before after : Files) (base : ℕ) (ids : List ℕ)
    (history : List LoggedLine) (files : List TableFile) : Type 0 where
  pub files_are : AreRunFiles before after files
  pub base_above : IsAbove before base
  pub base_below : (id : ℕ) → Contains ids id → base ≤ id
  pub follow : (table : Table) → FollowFrom (first_of base) (files_of table files)
  pub are_true : (file : TableFile) → Contains files file → IsTrueFor history file
  pub for_some : (file : TableFile) → Contains files file → HoldsSome history file
  pub in_one : (table : Table) (w : LoggedLine) → Contains history w → Touches (entry_of w) table
      → IsUpTo (logged_at w) (last_upper (first_of base) (files_of table files))
      → IsInOne files table (logged_at w)
  pub none : flushes ≡ false → files ≡ []
