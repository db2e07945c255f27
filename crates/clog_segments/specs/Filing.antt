-- A folder on the way of its recovery: of the tables below one, those that the log has cells of
-- have got their files.
use Rattle.std.specs.Prelude.{
  ◌≡◌,
  ◌⊎◌,
  ℕ,
  ◌<◌,
  ◌≤◌,
  ◌+◌,
  List,
  ◌++◌,
  map,
  length,
  Option,
  Some,
  None,
  option_map,
  Contains,
  Result,
}
use Rattle.std.specs.List.{AllPairs}
use Rattle.std.specs.declared.result.Result.TheVariants as result
use Rattle.std.specs.FinMap as finmap
use Rattle.clog_spec.specs.Names.{IsSegmentName, IsTableName, table_name_of}
use Rattle.clog_base.specs.declared.cell.Cell.{Cell}
use Rattle.clog_base.specs.declared.cell.CellKey.{CellKey}
use Rattle.clog_base.specs.declared.cell.Table.{Table}
use Rattle.clog_base.specs.declared.position.Position.{Position}
use Rattle.clog_io.specs.Causes.{Rose}
use Rattle.clog_cells.specs.Merge.{IsMergeOf}
use Rattle.clog_disk.specs.declared.change.Change.{Change}
use Rattle.clog_disk.specs.declared.change.Change.TheVariants as change
use Rattle.clog_disk.specs.Files.{Files, Told, bytes_at}
use Rattle.clog_disk.specs.Images.{LeavesOnly}
use Rattle.clog_table.specs.declared.table_file.TableFile.{TableFile}
use Rattle.clog_table.specs.Refusals.{IsFileOf}
use Rattle.clog_crash.specs.Flush.{IsSameFolder, IsSettled}
use Rattle.clog_crash.specs.Folder.{IsBase}
use Rattle.clog_crash.specs.Readings.{IsLoggedCellIn, IsSkippedIn}
use Rattle.clog_crash.specs.Recovery.{AreFiled, IsGreatestPosition, IsRecoveryFile}
use Rattle.clog_crash.specs.Restore.{IsUndamaged}
use Rattle.clog_folder.specs.declared.fault.OpenFault.{OpenFault}
use Rattle.clog_folder.specs.declared.fault.OpenFault.TheVariants.{Disk, OutOfMemory}
use Rattle.clog_segments.specs.Named.{HasSequence, OneHas}
use Rattle.clog_segments.specs.StoreFailed.{AllStay}

-- What is known of a folder that is to be recovered: its names, the cells that its log restores,
-- and where its log ends if it restores any.
pub record IsReady (first : Files) (names : List (List ℕ)) (cells : List (CellKey × Cell))
    (top : Position) : Type 0 where
  pub lists : names ≡ finmap.keys first
  pub undamaged : IsUndamaged first
  pub live : IsMergeOf (IsLoggedCellIn (bytes_at first)) cells
  pub greatest : (pair : CellKey × Cell) → IsLoggedCellIn (bytes_at first) pair
      → IsGreatestPosition (bytes_at first) top
  pub decides : (table : Table) (at : Position)
      → IsSkippedIn (bytes_at first) table at ⊎ (¬ IsSkippedIn (bytes_at first) table at)

-- These bytes are put at this name, which is free, by a recovery: a file of one table that stands
-- for the whole log, with at least one cell. Its sequence is 1, or one more than the greatest that
-- the table has.
pub record IsRecoveryPut (first : Files) (name bytes : List ℕ) : Type 0 where
  pub file : TableFile
  pub sequence : ℕ
  pub named : IsTableName name file.table.0 sequence
  pub next : IsBase (OneHas (HasSequence file.table) (finmap.keys first)) 1 sequence
  pub spelled : IsFileOf file.table bytes file
  pub free : finmap.get first name ≡ None
  pub is_recovery_file : IsRecoveryFile (bytes_at first) file
  pub some : 0 < length file.cells

-- what is there now and was not before was put by a recovery
abbrev pub AreRecoveryPuts : Files → Files → Type 0
AreRecoveryPuts first now = (name bytes : List ℕ) → finmap.get now name ≡ Some bytes
    → finmap.get first name ≡ None → IsRecoveryPut first name bytes

-- each file that is there reads as it did at first, or was put by a recovery
abbrev pub ComesFrom : Files → Files → Type 0
ComesFrom first image = (name bytes : List ℕ) → finmap.get image name ≡ Some bytes
    → (finmap.get first name ≡ Some bytes) ⊎ IsRecoveryPut first name bytes

-- a crash leaves no file but such
abbrev pub LeavesFrom : Files → (List ℕ → Option (List ℕ) → Type 0) → Type 0
LeavesFrom first leaves = (name bytes : List ℕ) → leaves name (Some bytes)
    → (finmap.get first name ≡ Some bytes) ⊎ IsRecoveryPut first name bytes

-- So it is at each moment from one state of a disk to another, and at the later one.
pub record StaysFrom {D : Type 0} (moment : D → ℕ) (since : D → ℕ → Files → Type 0)
    (leaves : D → List ℕ → Option (List ℕ) → Type 0) (first : Files) (old new : D) : Type 0 where
  pub now : LeavesFrom first (leaves new)
  pub meanwhile : LeavesOnly moment since old new (ComesFrom first)

-- the change of a disk that puts a file
abbrev pub publish : List ℕ × List ℕ → Change
publish put = change.Publish put.0 put.1

-- the file has a name of this table
abbrev pub IsPutOf : ℕ → List ℕ × List ℕ → Type 0
IsPutOf table put = (sequence : ℕ) × IsTableName put.0 table sequence

-- one of the files is of this table
abbrev pub HaveTable : List (List ℕ × List ℕ) → ℕ → Type 0
HaveTable puts table =
    (put : List ℕ × List ℕ) × Contains puts put × IsPutOf table put

-- each table of which the log restores a cell has one of the files
abbrev pub HaveAllLive : Files → List (List ℕ × List ℕ) → Type 0
HaveAllLive first puts = (pair : CellKey × Cell) → IsLoggedCellIn (bytes_at first) pair
    → HaveTable puts pair.0.table.0

-- the first file is of a lower table than the second
abbrev pub IsOfLowerTable : List ℕ × List ℕ → List ℕ × List ℕ → Type 0
IsOfLowerTable a b = (low high : ℕ) → IsPutOf low a → IsPutOf high b → low < high

-- Behind the changes that there were a recovery has put some files, in the order of their tables
-- and one a table at most, and done nothing else.
pub record HasPut (first : Files) (before now : Option (List Change)) : Type 0 where
  pub puts : List (List ℕ × List ℕ)
  pub are : (put : List ℕ × List ℕ) → Contains puts put → IsRecoveryPut first put.0 put.1
  pub ascend : AllPairs IsOfLowerTable puts
  pub behind : now ≡ option_map (λ changes. changes ++ map publish puts) before

-- They are of tables from one on up to below another, and each of these that has cells has one.
pub record HasPutFrom (first : Files) (cells : List (CellKey × Cell)) (low high : ℕ)
    (before now : Option (List Change)) : Type 0 where
  pub puts : List (List ℕ × List ℕ)
  pub are : (put : List ℕ × List ℕ) → Contains puts put → IsRecoveryPut first put.0 put.1
  pub ascend : AllPairs IsOfLowerTable puts
  pub behind : now ≡ option_map (λ changes. changes ++ map publish puts) before
  pub within : (put : List ℕ × List ℕ) → Contains puts put → (table : ℕ) → IsPutOf table put
      → (low ≤ table) × (table < high)
  pub each : (pair : CellKey × Cell) → Contains cells pair → low ≤ pair.0.table.0
      → pair.0.table.0 < high → HaveTable puts pair.0.table.0

-- one table's file was put, if it has cells, or nothing has changed
abbrev pub PutsTable : {T : Type 0} → Files → List (CellKey × Cell) → ℕ → Option (List Change)
    → Option (List Change) → Result T OpenFault → Type 0
PutsTable first cells n before now (result.Ok x) = HasPutFrom first cells n (n + 1) before now
PutsTable first cells n before now (result.Err refusal) = now ≡ before

-- those of the tables below n were put, or of the first of them
abbrev pub PutsTables : {T : Type 0} → Files → List (CellKey × Cell) → ℕ → Option (List Change)
    → Option (List Change) → Result T OpenFault → Type 0
PutsTables first cells n before now (result.Ok x) = HasPutFrom first cells 0 n before now
PutsTables first cells n before now (result.Err refusal) = HasPut first before now

-- The tables below n that the log has cells of have their files. Nothing else has changed.
pub record IsFiledTo (first : Files) (cells : List (CellKey × Cell)) (n : ℕ) (now : Files) : Type 0
  where
    pub done : List Table
    pub filed : AreFiled (bytes_at first) (bytes_at now) done
    pub below : (table : Table) → Contains done table → table.0 < n
    pub all : (pair : CellKey × Cell) → Contains cells pair → pair.0.table.0 < n
        → Contains done pair.0.table
    pub same : IsSameFolder first now
    pub free : (table : Table) (sequence : ℕ) → n ≤ table.0
        → IsTableName (table_name_of table.0 sequence) table.0 sequence
        → finmap.get now (table_name_of table.0 sequence)
        ≡ finmap.get first (table_name_of table.0 sequence)
    pub segments : (name : List ℕ) (version id : ℕ) → IsSegmentName name version id
        → finmap.get now name ≡ finmap.get first name
    pub stand : AllStay first now
    pub came : AreRecoveryPuts first now

-- where the disk tells its files, they are such
abbrev pub FiledNow : Files → List (CellKey × Cell) → ℕ → Option Files → Type 0
FiledNow first cells n told = Told told (IsFiledTo first cells n)

-- and all of them last
abbrev pub SettledTo : Files → List (CellKey × Cell) → ℕ → Option Files
    → (List ℕ → Option (List ℕ) → Type 0) → Type 0
SettledTo first cells n told leaves =
    Told told (λ now. IsFiledTo first cells n now × IsSettled now leaves)

-- the same folder, in which each file of before stands; what came was put by a recovery
abbrev pub IsFullFolder : Files → Files → Type 0
IsFullFolder first now = IsSameFolder first now × AllStay first now × AreRecoveryPuts first now

-- the files after a step: a refused one leaves the same folder, and what was there
abbrev pub FiledBy : {T : Type 0} → Files → List (CellKey × Cell) → ℕ → Option Files
    → Result T OpenFault → Type 0
FiledBy first cells n told (result.Ok x) = FiledNow first cells n told
FiledBy first cells n told (result.Err refusal) = Told told (IsFullFolder first)

-- what becomes of the count of faults in a step, and why it is refused
abbrev pub StepCause : {T : Type 0} → ℕ → ℕ → Result T OpenFault → Type 0
StepCause before now (result.Ok x) = now ≡ before
StepCause before now (result.Err Disk) = Rose before now
StepCause before now (result.Err OutOfMemory) = now ≡ before
StepCause before now (result.Err other) = ⊥
