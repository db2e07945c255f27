-- What the names of a folder and its table files say of ids and of sequences.
use Rattle.std.specs.Prelude.{◌≡◌, ◌⊎◌, ℕ, ◌<◌, ◌≤◌, List, map, Contains, Result}
use Rattle.std.specs.declared.result.Result.TheVariants as result
use Rattle.clog_spec.specs.Names.{IsSegmentName, IsArchiveName, IsTableName}
use Rattle.clog_base.specs.declared.cell.Table.{Table}
use Rattle.clog_base.specs.declared.fault.Quantity.TheVariants.{Ids}
use Rattle.clog_crash.specs.Folder.{IsBase}
use Rattle.clog_folder.specs.declared.fault.OpenFault.{OpenFault}
use Rattle.clog_folder.specs.declared.fault.OpenFault.TheVariants.{Limit}
use Rattle.clog_folder.specs.declared.tables.TableHeld.{TableHeld}
use Rattle.clog_folder.specs.Listing.{AreRows, IsSegmentAt, SegmentPlace, segment_cmp}

-- ids that a folder names are less than this
abbrev pub id_limit : ℕ
id_limit = 4611686018427387903

-- the greatest sequence that a table's file may have where a folder is opened
abbrev pub sequence_limit : ℕ
sequence_limit = 4611686018427387904

-- ---- of one name, or one table file

-- the name is that of a segment of any version, or of an archived one, of this id
abbrev pub HasId : List ℕ → ℕ → Type 0
HasId name id = ((version : ℕ) × IsSegmentName name version id) ⊎ IsArchiveName name id

-- the name is that of a file of the table, of this sequence
abbrev pub HasSequence : Table → List ℕ → ℕ → Type 0
HasSequence table name sequence = IsTableName name table.0 sequence

-- the name is that of a table file whose sequence is above the limit
abbrev pub IsLateTable : List ℕ → Type 0
IsLateTable name =
    (table : ℕ) × ((sequence : ℕ) × IsTableName name table sequence × (sequence_limit < sequence))

-- the file's interval ends in the segment of this id
abbrev pub EndsIn : TableHeld → ℕ → Type 0
EndsIn held id = held.file.upper.id ≡ id

-- ---- of all

-- one of these has P of a number
abbrev pub OneHas : {A : Type 0} → (A → ℕ → Type 0) → List A → ℕ → Type 0
OneHas P xs n = (x : _) × Contains xs x × P x n

-- one of the names, or of the table files
abbrev pub NamesOne : List (List ℕ) → List TableHeld → ℕ → Type 0
NamesOne names tables id = OneHas HasId names id ⊎ OneHas EndsIn tables id

-- The base, where each id that has P is below its limit.
pub record IsIdBase (P : ℕ → Type 0) (now next : ℕ) : Type 0 where
  pub base : IsBase P now next
  pub few : (n : ℕ) → P n → n < id_limit

-- the base, or the limit that an id passes
abbrev pub GivesBase : (ℕ → Type 0) → ℕ → Result ℕ OpenFault → Type 0
GivesBase P now (result.Ok base) = IsIdBase P now base
GivesBase P now (result.Err refusal) =
    (refusal ≡ Limit Ids id_limit) × ((n : ℕ) × P n × (id_limit ≤ n))

-- ---- segments

-- the id of a segment's place
abbrev pub id_of : SegmentPlace × List ℕ → ℕ
id_of row = row.0.0

-- The ids of the segments among the names that have P, in the order of ids and versions.
pub record AreSegmentIds (P : List ℕ → Type 0) (ids : List ℕ) : Type 0 where
  pub rows : List (SegmentPlace × List ℕ)
  pub are : AreRows segment_cmp IsSegmentAt P rows
  pub ids_are : ids ≡ map id_of rows
