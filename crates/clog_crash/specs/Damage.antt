-- Where a segment of a folder is torn, and which torn place is the folder's first damage.
use Rattle.std.specs.Prelude.{
  ◌≡◌,
  ◌≢◌,
  ◌⊎◌,
  ℕ,
  ◌<◌,
  List,
  [],
  ◌∷◌,
  Some,
}
use Rattle.std.specs.FinMap as finmap
use Rattle.clog_spec.specs.Names.{IsSegmentName}
use Rattle.clog_base.specs.declared.fault.PayloadFault.{PayloadFault}
use Rattle.clog_disk.specs.Files.{Files}
use Rattle.clog_entry.specs.declared.cause.Cause.{Cause}
use Rattle.clog_entry.specs.declared.cause.Cause.TheVariants.{Payload, Version}
use Rattle.clog_entry.specs.Soft.{IsSoft}
use Rattle.clog_mutation.specs.declared.mutation.Mutation.{Mutation}
use Rattle.clog_mutation.specs.Refusals.{IsRefused}
use Rattle.clog_mutation.specs.Stored.{IsPayload}
use Rattle.clog_scan.specs.declared.answer.End.{End}
use Rattle.clog_scan.specs.declared.answer.End.TheVariants.{Torn}
use Rattle.clog_scan.specs.Laws.{IsFile}
use Rattle.clog_scan.specs.Segment.{Entry}
use Rattle.clog_crash.specs.Folder.{IsHeld}
use Rattle.clog_crash.specs.Restore.{
  AreMutations,
  HoldsSegment,
  IsGoodSegment,
  IsLastId,
}

-- ---- where a segment is torn

-- The first of these entries whose payload is no mutation's begins at this offset, and its payload
-- is refused for this fault.
abbrev pub IsFirstRefused : List Entry → ℕ → PayloadFault → Type 0
IsFirstRefused [] at fault = ⊥
IsFirstRefused (e ∷ es) at fault =
    ((at ≡ e.start) × IsRefused e.payload fault)
    ⊎ (((mutation : Mutation) × IsPayload e.payload mutation) × IsFirstRefused es at fault)

-- Bytes that hold these entries and end so are torn at the first payload that is refused, or where
-- their framing ends.
abbrev pub TearsAt : List Entry → End → ℕ → Cause → Type 0
TearsAt entries end at cause =
    ((fault : PayloadFault) × IsFirstRefused entries at fault × (cause ≡ Payload fault))
    ⊎ (AreMutations entries × (end ≡ Torn at cause))

-- A segment of version 6 that is there is torn at this offset for this cause.
pub record IsTornInside (files : Files) (name : List ℕ) (id at : ℕ) (cause : Cause) : Type 0 where
  pub entries : List Entry
  pub end : End
  pub holds : HoldsSegment files name id entries end
  pub tears : TearsAt entries end at cause

-- A segment of another version is torn at its start, whatever its bytes.
abbrev pub IsTornAt : Files → List ℕ → ℕ → ℕ → ℕ → Cause → Type 0
IsTornAt files name version id at cause =
    ((version ≢ 6) × (at ≡ 0) × (cause ≡ Version version))
    ⊎ ((version ≡ 6) × IsTornInside files name id at cause)

-- ---- the first damage

-- a segment comes before another: by id, and of one id by version
abbrev pub ComesBefore : ℕ → ℕ → ℕ → ℕ → Type 0
ComesBefore version id version' id' = (id < id') ⊎ ((id ≡ id') × (version < version'))

-- It is this place of this segment, for this cause: a crash's tail is torn for a soft cause, and no
-- segment has a greater id, so such a place is none. Each segment before it is good.
pub record IsFirstDamage (files : Files) (name : List ℕ) (at : ℕ) (cause : Cause) : Type 0 where
  pub version : ℕ
  pub id : ℕ
  pub named : IsSegmentName name version id
  pub held : IsHeld files name
  pub torn : IsTornAt files name version id at cause
  pub no_tail : IsSoft cause → ¬ IsLastId files id
  pub first : (other : List ℕ) (version' id' : ℕ) → IsSegmentName other version' id'
      → IsHeld files other → ComesBefore version' id' version id
      → (version' ≡ 6) × IsGoodSegment files other id'

-- each segment of version 6 is short enough to be read, and its numbers are bytes
abbrev pub AreSegmentFiles : Files → Type 0
AreSegmentFiles files = (name bytes : List ℕ) (id : ℕ) → IsSegmentName name 6 id
    → finmap.get files name ≡ Some bytes → IsFile bytes
