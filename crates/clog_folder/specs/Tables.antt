-- What the steps of reading table files answer.
use Rattle.std.specs.Prelude.{◌≡◌, ◌≢◌, ℕ, List, map, Option, Some, IfSome, All, ⊤, Result, Vec}
use Rattle.std.specs.declared.alloc.Global.{Global}
use Rattle.std.specs.declared.result.Result.TheVariants as result
use Rattle.std.specs.FinMap as finmap
use Rattle.std.specs.Map.{keys_of}
use Rattle.clog_base.specs.declared.cell.Table.{Table}
use Rattle.clog_io.specs.Causes.{Rose}
use Rattle.clog_disk.specs.Files.{Files}
use Rattle.clog_table.specs.declared.fault.TableFault.{TableFault}
use Rattle.clog_table.specs.declared.fault.TableFault.TheVariants.{OutOfMemory as no_memory}
use Rattle.clog_table.specs.declared.table_file.TableFile.{TableFile}
use Rattle.clog_table.specs.Refusals.{Refuses}
use Rattle.clog_crash.specs.Folder.{
  Place,
  TableRead,
  place_of,
  IsReadFrom,
  IsGoodTable,
  IsFirstBad,
}
use Rattle.clog_folder.specs.declared.fault.OpenFault.{OpenFault}
use Rattle.clog_folder.specs.declared.fault.OpenFault.TheVariants.{Disk, BadTable, OutOfMemory}
use Rattle.clog_folder.specs.declared.tables.TableHeld.{TableHeld}

-- what was read
abbrev pub read_of : TableHeld → TableRead
read_of held = record { sequence = held.sequence; file = held.file }

-- ---- one file: for private clauses

-- the file is there, and its bytes are none of the table, for this cause
pub record IsBadFile (files : Files) (table : Table) (name : List ℕ) (fault : TableFault) : Type 0
  where
    pub bytes : List ℕ
    pub there : finmap.get files name ≡ Some bytes
    pub refused : Refuses table bytes fault

-- why the file of a place is not read: a fault of the disk, want of memory, or what is bad in it
abbrev pub TableRefused : Option Files → ℕ → ℕ → Place → List ℕ → OpenFault → Type 0
TableRefused files faults now place name Disk = Rose faults now
TableRefused files faults now place name OutOfMemory = ⊤
TableRefused files faults now place name (BadTable other fault) =
    (other ≡ name) × (fault ≢ no_memory)
    × IfSome files (λ held. IsBadFile held place.0 name fault)
TableRefused files faults now place name other = ⊥

-- what the file of a place says, or why it is not read
abbrev pub ReadsTable : Option Files → ℕ → ℕ → Place → List ℕ → Result TableFile OpenFault → Type 0
ReadsTable files faults now place name (result.Ok file) =
    IfSome files (λ held. IsGoodTable held place name file)
ReadsTable files faults now place name (result.Err refusal) =
    TableRefused files faults now place name refusal

-- ---- all table files

-- the files of these places, in their order, say this
pub record AreReadOf (files : Files) (rows : List (Place × List ℕ)) (reads : List TableRead) : Type
    0 where
  pub places : map place_of reads ≡ keys_of rows
  pub each : All (IsReadFrom files) reads

-- where the files are told
abbrev pub HaveRead : Option Files → List (Place × List ℕ) → List TableHeld → Type 0
HaveRead files rows tables = IfSome files (λ held. AreReadOf held rows (map read_of tables))

abbrev pub TablesRefused : Option Files → ℕ → ℕ → OpenFault → Type 0
TablesRefused files faults now Disk = Rose faults now
TablesRefused files faults now OutOfMemory = ⊤
TablesRefused files faults now (BadTable name fault) =
    IfSome files (λ held. IsFirstBad held name fault)
TablesRefused files faults now other = ⊥

abbrev pub ReadsTables : Option Files → ℕ → ℕ → List (Place × List ℕ)
    → Result (Vec TableHeld Global) OpenFault → Type 0
ReadsTables files faults now rows (result.Ok tables) = HaveRead files rows tables.items
ReadsTables files faults now rows (result.Err refusal) = TablesRefused files faults now refusal
