-- What a folder holds of a store once its disk has failed: all that it would hold, but for one
-- name, that of the file with which the disk has failed; and what stands there.
use Rattle.std.specs.Prelude.{◌≡◌, ◌⊎◌, ℕ, ◌+◌, List, Option, Some, None, Contains}
use Rattle.std.specs.FinMap as finmap
use Rattle.clog_spec.specs.Names.{IsTableName, segment_name_of}
use Rattle.clog_disk.specs.Files.{Files}
use Rattle.clog_crash.specs.Folder.{HoldsName, IsBase}
use Rattle.clog_segments.specs.Beside.{MayBeGoing, NamesSegment}
use Rattle.clog_segments.specs.StoreFolder.{
  Deeds,
  HoldsStore,
  IsNextFile,
  IsPast,
  PlacedFile,
  StoreLog,
  name_of,
}
use Rattle.clog_segments.specs.Torn.{StandsTorn}

-- ---- the name with which a disk may fail

-- the name of a table's next file, which is not there
pub record IsFreeTable (files : Files) (name : List ℕ) : Type 0 where
  pub table : ℕ
  pub sequence : ℕ
  pub named : IsTableName name table sequence
  pub next : IsBase (λ (n : ℕ). HoldsName files (λ (other : List ℕ). IsTableName other table n)) 1
      sequence
  pub free : finmap.get files name ≡ None

-- the name of an earlier segment that was not dropped, or its archive name where segments get one
pub record IsToGo (log : StoreLog) (deeds : Deeds) (name : List ℕ) : Type 0 where
  pub ordinal : ℕ
  pub past : IsPast log ordinal
  pub stays : Contains deeds.dropped ordinal → ⊥
  pub name_is : NamesSegment deeds.archives (log.base + ordinal) name

-- of the segment at hand, of a table file that was to come, or of an earlier segment that was to go
abbrev pub IsFailing : StoreLog → Deeds → Files → List ℕ → Type 0
IsFailing log deeds files name =
    (name ≡ segment_name_of 6 log.id)
    ⊎ (IsFreeTable files name ⊎ IsToGo log deeds name)

-- ---- what stands there

-- the sections of the segment at hand, of the last of them perhaps other bytes, or not all
pub record IsTornHand (log : StoreLog) (name : List ℕ) (what : Option (List ℕ)) : Type 0 where
  pub name_is : name ≡ segment_name_of 6 log.id
  pub torn : StandsTorn log.id 0 log.sections what

-- the whole of a table's next file
pub record IsComing (log : StoreLog) (files : Files) (name : List ℕ) (what : Option (List ℕ))
    : Type 0 where
  pub file : PlacedFile
  pub name_is : name ≡ name_of file
  pub next : IsNextFile log.base files file
  pub what_is : what ≡ Some file.bytes

-- of an earlier segment that was to go nothing at its own name, or at its archive name all of it
pub record IsGoing (log : StoreLog) (deeds : Deeds) (files : Files) (name : List ℕ)
    (what : Option (List ℕ)) : Type 0 where
  pub goes : IsToGo log deeds name
  pub stands : MayBeGoing (log.base + goes.ordinal) name files what

-- What would stand there, or what the disk's failure has made of it: torn bytes behind the
-- sections of the segment at hand that last, all of the table file that was to come, or of the
-- segment that was to go nothing, or its archive.
abbrev pub MayStand : StoreLog → Deeds → Files → List ℕ → Option (List ℕ) → Type 0
MayStand log deeds files name what =
    (what ≡ finmap.get files name)
    ⊎ (IsTornHand log name what
    ⊎ (IsComing log files name what ⊎ IsGoing log deeds files name what))

-- ---- the folder

-- But for one name the folder is that of a store, and at that one there stands what may.
pub record HoldsButOne (first : Files) (log : StoreLog) (deeds : Deeds) (now : Files) : Type 0
  where
    -- what it would be
    pub last : Files
    pub holds : HoldsStore first log deeds last
    pub name : List ℕ
    pub failing : IsFailing log deeds last name
    pub others : (other : List ℕ) → (other ≡ name → ⊥)
        → finmap.get now other ≡ finmap.get last other
    pub stands : MayStand log deeds last name (finmap.get now name)

-- Each file that was there at first is there still, with the same bytes.
abbrev pub AllStay : Files → Files → Type 0
AllStay first now =
    (name bytes : List ℕ) → finmap.get first name ≡ Some bytes → finmap.get now name ≡ Some bytes
