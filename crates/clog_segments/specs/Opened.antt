-- What an opening makes of a folder, and why it refuses one.
use Rattle.std.specs.Prelude.{
  ◌≡◌,
  ◌⊎◌,
  ℕ,
  ◌+◌,
  ◌<◌,
  ◌≤◌,
  List,
  [],
  take,
  Contains,
  Option,
  Some,
  false,
  IfSome,
  ⊤,
  Result,
}
use Rattle.std.specs.List.{Any}
use Rattle.std.specs.declared.result.Result.TheVariants as result
use Rattle.std.specs.FinMap as finmap
use Rattle.clog_spec.specs.Names.{IsTableName}
use Rattle.clog_spec.specs.Sizes.{file_limit}
use Rattle.clog_base.specs.declared.cell.Cell.{Cell}
use Rattle.clog_base.specs.declared.cell.CellKey.{CellKey}
use Rattle.clog_base.specs.declared.fault.Quantity.TheVariants.{Ids, SegmentBytes, TableFiles}
use Rattle.clog_io.specs.Causes.{Rose}
use Rattle.clog_disk.specs.declared.change.Change.{Change}
use Rattle.clog_disk.specs.Files.{Files, Lists, Told, bytes_at}
use Rattle.clog_disk.specs.Images.{IsImage}
use Rattle.clog_table.specs.declared.table_file.TableFile.{TableFile}
use Rattle.clog_crash.specs.Covering.{SameMerge}
use Rattle.clog_crash.specs.Flush.{IsSameFolder}
use Rattle.clog_crash.specs.Folder.{
  HasSegmentFile,
  HoldsName,
  IsBase,
  IsFirstBad,
  IsHeld,
  IsNameOfSegment,
}
use Rattle.clog_crash.specs.Readings.{IsTableIn, RestoresIn}
use Rattle.clog_crash.specs.Recovery.{NamesAny}
use Rattle.clog_crash.specs.Restore.{IsRestored, IsUndamaged}
use Rattle.clog_folder.specs.declared.fault.OpenFault.{OpenFault}
use Rattle.clog_folder.specs.declared.fault.OpenFault.TheVariants.{
  Disk,
  Damaged,
  BadTable,
  Limit,
  OutOfMemory,
}
use Rattle.clog_folder.specs.declared.tables.TableHeld.{TableHeld}
use Rattle.clog_folder.specs.Folder.{CanBeRead, HasDamage, HasLongSegment}
use Rattle.clog_segments.specs.declared.opening.Known.{Known}
use Rattle.clog_segments.specs.Coming.{HaveRemoved}
use Rattle.clog_segments.specs.Filing.{AreRecoveryPuts, HasPut, HaveAllLive}
use Rattle.clog_segments.specs.Life.{State}
use Rattle.clog_segments.specs.Live.{IsLogOf}
use Rattle.clog_segments.specs.Named.{
  AreSegmentIds,
  IsIdBase,
  IsLateTable,
  NamesOne,
  id_limit,
  sequence_limit,
}

-- ---- what is opened

-- The folder can be read, no sequence is above its limit, and each id is below its own.
pub record CanBeOpened (files : Files) : Type 0 where
  pub readable : CanBeRead false files
  pub few : ¬ HoldsName files IsLateTable
  pub low : (id : ℕ) → NamesAny files id → id < id_limit

-- each table's sequences are below the limit, so that it may have one file more
abbrev pub SequencesAreBelow : Files → Type 0
SequencesAreBelow files = (name : List ℕ) (table sequence : ℕ) → IsTableName name table sequence
    → IsHeld files name → sequence < sequence_limit

-- So many further files of each table have sequences within their limit.
pub record HasRoomFor (files : Files) (count : ℕ) : Type 0 where
  pub least : count ≤ sequence_limit
  pub each : (name : List ℕ) (table sequence : ℕ) → IsTableName name table sequence
      → IsHeld files name → sequence + count ≤ sequence_limit

-- each file whose name is no segment's stands as it was
abbrev pub OthersStay : Files → Files → Type 0
OthersStay first now = (name bytes : List ℕ) → ¬ IsNameOfSegment name
    → finmap.get first name ≡ Some bytes → finmap.get now name ≡ Some bytes

-- Each file whose name is no segment's stands as it was, and what came was put by a recovery.
pub record RecoversOnly (first now : Files) : Type 0 where
  pub others : OthersStay first now
  pub came : AreRecoveryPuts first now

-- A recovered folder has the same newest cells, no damage, and no segment. Each other file stands
-- as it was, and what came are the files that recovery puts. No table file reaches into a segment
-- from the base on.
pub record IsRecovered (first : Files) (base : ℕ) (now : Files) : Type 0 where
  pub same : IsSameFolder first now
  pub no_segment : ¬ HasSegmentFile now
  pub others : OthersStay first now
  pub came : AreRecoveryPuts first now
  pub below : (file : TableFile) → IsTableIn (bytes_at now) file → file.upper.id < base

-- The folder could be opened, was recovered, and the base is the greater of the moment and one more
-- than each id that the folder named.
pub record IsOpened (first : Files) (moment base : ℕ) (now : Files) : Type 0 where
  pub within : CanBeOpened first
  pub is_base : IsBase (NamesAny first) moment base
  pub recovered : IsRecovered first base now

-- the files restore to some rows
abbrev pub HasRows : Files → Type 0
HasRows files = (rows : List (CellKey × Cell)) × IsRestored files rows

-- ---- what it changes

-- First files are put, and then these segments are removed, in this order; nothing else is done.
-- None goes before each table of which the log restores a cell has its file.
pub record HasRecovered (first : Files) (removed : List ℕ) (before now : Option (List Change))
    : Type 0 where
  pub between : Option (List Change)
  pub puts : HasPut first before between
  pub removes : HaveRemoved removed between now
  pub each : (id : ℕ) → Contains removed id → HaveAllLive first puts.puts

-- the first of the segments' ids, or none
abbrev pub AreFirstIds : Files → List ℕ → Type 0
AreFirstIds first removed = (removed ≡ [])
    ⊎ ((ids : List ℕ) × AreSegmentIds (IsHeld first) ids × ((n : ℕ) × (removed ≡ take n ids)))

-- the first of the segments are removed, or none, in the order of their ids
abbrev pub RecoversFirst : Files → Option (List Change) → Option (List Change) → Type 0
RecoversFirst first before now =
    (removed : List ℕ) × AreFirstIds first removed × HasRecovered first removed before now

-- Each table of which the log restores a cell gets its file, and all segments are removed, in the
-- order of their ids.
abbrev pub RecoversAll : Files → Option (List Change) → Option (List Change) → Type 0
RecoversAll first before now =
    (ids : List ℕ) × AreSegmentIds (IsHeld first) ids
    × ((done : HasRecovered first ids before now) × HaveAllLive first done.puts.puts)

-- ---- why it is refused

-- a table file's sequence is above its limit
pub record HasManyTables (files : Files) : Type 0 where
  pub readable : CanBeRead false files
  pub late : HoldsName files IsLateTable

-- no sequence is above its limit, but an id is at its limit, or above it
pub record HasGreatId (files : Files) : Type 0 where
  pub readable : CanBeRead false files
  pub few : ¬ HoldsName files IsLateTable
  pub id : ℕ
  pub named : NamesAny files id
  pub great : id_limit ≤ id

-- each row with what comes before it
abbrev pub OpenRefused : Option Files → ℕ → ℕ → OpenFault → Type 0
OpenRefused files faults now Disk = Rose faults now
OpenRefused files faults now OutOfMemory = ⊤
OpenRefused files faults now (BadTable name fault) =
    IfSome files (λ held. IsFirstBad held name fault)
OpenRefused files faults now (Damaged name at cause) =
    IfSome files (λ held. HasDamage held name at cause)
OpenRefused files faults now (Limit SegmentBytes most) =
    (most ≡ file_limit) × IfSome files (HasLongSegment false)
OpenRefused files faults now (Limit TableFiles most) =
    (most ≡ sequence_limit) × IfSome files HasManyTables
OpenRefused files faults now (Limit Ids most) = (most ≡ id_limit) × IfSome files HasGreatId
OpenRefused files faults now other = ⊥

-- where the files are told, they were opened, from a moment, with this base
abbrev pub OpensAs : Option Files → Option Files → ℕ → ℕ → Type 0
OpensAs files told moment base = IfSome files (λ first. Told told (IsOpened first moment base))

-- the base, from a moment, or why the folder is not opened
abbrev pub Opens : Option Files → Option Files → ℕ → ℕ → ℕ → Result ℕ OpenFault → Type 0
Opens files told faults now moment (result.Ok base) =
    OpensAs files told moment base
Opens files told faults now moment (result.Err refusal) = OpenRefused files faults now refusal

-- ---- what stays

-- The files have the same newest cells, and where the folder was undamaged, no damage.
pub record KeepsFolder (first now : Files) : Type 0 where
  pub same : SameMerge (RestoresIn (bytes_at now)) (RestoresIn (bytes_at first))
  pub undamaged : IsUndamaged first → IsUndamaged now

-- a crash might have left the image before, or it has P
abbrev pub WasLeftOr : (List ℕ → Option (List ℕ) → Type 0) → (Files → Type 0) → Files → Type 0
WasLeftOr old P image = IsImage old image ⊎ P image

-- a folder that is refused for what it holds is left alone
abbrev pub LeftAlone : Type 0 → OpenFault → Type 0
LeftAlone alone Disk = ⊤
LeftAlone alone OutOfMemory = ⊤
LeftAlone alone other = alone

abbrev pub LeavesAlone : {T : Type 0} → Type 0 → Result T OpenFault → Type 0
LeavesAlone alone (result.Ok x) = ⊤
LeavesAlone alone (result.Err refusal) = LeftAlone alone refusal

-- the disk under an opened store, or the one that comes back, has P
abbrev pub HandsOn : {D : Type 0} → (D → Type 0) → Result (State D) (D × OpenFault) → Type 0
HandsOn P (result.Ok store) = P store.disk
HandsOn P (result.Err back) = P back.0

-- ---- for private clauses

-- What is known of a folder that can be opened, from a moment.
pub record IsKnown (files : Option Files) (moment : ℕ) (known : Known) : Type 0 where
  pub tables : List TableHeld
  pub log : IsLogOf files tables known.cells known.top
  pub lists : Lists files known.names
  pub few : ¬ Any IsLateTable known.names
  pub base_is : IsIdBase (NamesOne known.names tables) moment known.base

abbrev pub Looks : Option Files → ℕ → ℕ → ℕ → Result Known OpenFault → Type 0
Looks files faults now moment (result.Ok known) = IsKnown files moment known
Looks files faults now moment (result.Err refusal) = OpenRefused files faults now refusal
