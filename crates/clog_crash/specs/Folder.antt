-- What a folder holds: table files in their order, the ids that it names, and whether there is a
-- segment.
use Rattle.std.specs.Prelude.{
  ◌≡◌,
  ◌≢◌,
  ◌⊎◌,
  ℕ,
  ◌+◌,
  ◌<◌,
  ◌≤◌,
  List,
  map,
  Option,
  Some,
  None,
  IsSome,
  Contains,
  All,
}
use Rattle.std.specs.List.{flat_map}
use Rattle.std.specs.List.Sorted.{IsStrictlySortedBy}
use Rattle.std.specs.FinMap as finmap
use Rattle.std.specs.declared.cmp.Ordering.{Ordering}
use Rattle.std.specs.declared.cmp.Ordering.TheVariants.{Less}
use Rattle.std.specs.Ordering.{nat_cmp, ordering_then}
use Rattle.clog_spec.specs.Names.{IsSegmentName, IsArchiveName, IsTableName}
use Rattle.clog_base.specs.declared.cell.Cell.{Cell}
use Rattle.clog_base.specs.declared.cell.CellKey.{CellKey}
use Rattle.clog_base.specs.declared.cell.Table.{Table}
use Rattle.clog_disk.specs.Files.{Files}
use Rattle.clog_table.specs.declared.fault.TableFault.{TableFault}
use Rattle.clog_table.specs.declared.fault.TableFault.TheVariants.{OutOfMemory as no_memory}
use Rattle.clog_table.specs.declared.table_file.TableFile.{TableFile}
use Rattle.clog_table.specs.Refusals.{IsFileOf, Refuses}

-- ---- names

-- the name is that of a segment, of any version
abbrev pub IsNameOfSegment : List ℕ → Type 0
IsNameOfSegment name = (version : ℕ) × ((id : ℕ) × IsSegmentName name version id)

-- a file of this name is there
abbrev pub IsHeld : Files → List ℕ → Type 0
IsHeld files name = IsSome (finmap.get files name)

-- a file is there whose name is such
abbrev pub HoldsName : Files → (List ℕ → Type 0) → Type 0
HoldsName files P = (name : List ℕ) × IsHeld files name × P name

-- a segment's file is there, of any version
abbrev pub HasSegmentFile : Files → Type 0
HasSegmentFile files = HoldsName files IsNameOfSegment

-- a segment of this id is there, of any version
abbrev pub HasSegmentOf : Files → ℕ → Type 0
HasSegmentOf files id = HoldsName files (λ name. (version : ℕ) × IsSegmentName name version id)

-- an archived segment of this id is there
abbrev pub HasArchive : Files → ℕ → Type 0
HasArchive files id = HoldsName files (λ name. IsArchiveName name id)

-- ---- table files

-- where a table file stands among the others: its table, and its sequence
abbrev pub Place : Type 0
Place = Table × ℕ

-- by table, then by sequence
abbrev pub place_cmp : Place → Place → Ordering
place_cmp a b = ordering_then (nat_cmp a.0.0 b.0.0) (nat_cmp a.1 b.1)

-- the name is that of the table file of this place
abbrev pub IsNameOf : Place → List ℕ → Type 0
IsNameOf place name = IsTableName name place.0.0 place.1

-- a table file as it was read: its sequence, and what it says
pub record TableRead : Type 0 where
  pub sequence : ℕ
  pub file : TableFile

abbrev pub place_of : TableRead → Place
place_of read = (read.file.table, read.sequence)

-- the file of the place is there under this name, and says this
pub record IsGoodTable (files : Files) (place : Place) (name : List ℕ) (file : TableFile) : Type 0
  where
    pub bytes : List ℕ
    pub there : finmap.get files name ≡ Some bytes
    pub spelled : IsFileOf place.0 bytes file

-- what was read is there
pub record IsReadFrom (files : Files) (read : TableRead) : Type 0 where
  pub name : List ℕ
  pub named : IsNameOf (place_of read) name
  pub good : IsGoodTable files (place_of read) name read.file

-- These are all table files, in ascending order, and each of them is good.
pub record AreTables (files : Files) (reads : List TableRead) : Type 0 where
  pub ordered : IsStrictlySortedBy place_cmp (map place_of reads)
  pub each : All (IsReadFrom files) reads
  pub every : (place : Place) (name : List ℕ) → IsNameOf place name → IsHeld files name
      → Contains (map place_of reads) place

-- each file with a table file's name is one of its table
abbrev pub AreGoodTables : Files → Type 0
AreGoodTables files = (place : Place) (name : List ℕ) → IsNameOf place name → IsHeld files name
    → (file : TableFile) × IsGoodTable files place name file

-- the cells of table files, file by file
abbrev pub cells_in : TableRead → List (CellKey × Cell)
cells_in read = read.file.cells

abbrev pub cells_of_tables : List TableRead → List (CellKey × Cell)
cells_of_tables reads = flat_map cells_in reads

-- ---- ids

-- one of the table files holds what the log had up to this id
pub record HasUpper (reads : List TableRead) (id : ℕ) : Type 0 where
  pub read : TableRead
  pub listed : Contains reads read
  pub is : id ≡ read.file.upper.id

-- the folder names this id: in a name of a segment or of an archive, or in a table file
abbrev pub NamesId : Files → List TableRead → ℕ → Type 0
NamesId files reads id = (HasSegmentOf files id ⊎ HasArchive files id) ⊎ HasUpper reads id

-- the greatest number that has P, and none exactly where none has it
abbrev pub IsGreatest : (ℕ → Type 0) → Option ℕ → Type 0
IsGreatest P None = (n : ℕ) → ¬ P n
IsGreatest P (Some greatest) = P greatest × ((n : ℕ) → P n → n ≤ greatest)

-- The greater of a moment and one more than each number that has P; the moment alone where none has
-- it.
pub record IsBase (P : ℕ → Type 0) (now base : ℕ) : Type 0 where
  pub moment : now ≤ base
  pub above : (n : ℕ) → P n → n < base
  pub one : (base ≡ now) ⊎ ((n : ℕ) × P n × (base ≡ n + 1))

-- ---- the first table file that is not good

-- It is this one, for this cause; each one before it is good.
pub record IsFirstBad (files : Files) (name : List ℕ) (fault : TableFault) : Type 0 where
  pub place : Place
  pub named : IsNameOf place name
  pub bytes : List ℕ
  pub there : finmap.get files name ≡ Some bytes
  pub refused : Refuses place.0 bytes fault
  pub known : fault ≢ no_memory
  pub first : (before : Place) (other : List ℕ) → IsNameOf before other → IsHeld files other
      → place_cmp before place ≡ Less → (file : TableFile) × IsGoodTable files before other file
