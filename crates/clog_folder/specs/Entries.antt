-- The entries of a segment whose payloads are mutations'.
use Rattle.std.specs.Prelude.{◌≡◌, ℕ, ◌+◌, ◌-◌, List, Bool, true, false, ⊤, Result}
use Rattle.std.specs.declared.result.Result.TheVariants as result
use Rattle.std.specs.List.{slice_range, AllByRecursion}
use Rattle.clog_entry.specs.Fields.{entry_front_size}
use Rattle.clog_entry.specs.Soft.{IsSoft}
use Rattle.clog_mutation.specs.declared.mutation.Mutation.{Mutation}
use Rattle.clog_mutation.specs.Stored.{IsPayload}
use Rattle.clog_scan.specs.declared.answer.End.{End}
use Rattle.clog_scan.specs.declared.answer.End.TheVariants.{Clean, Torn}
use Rattle.clog_scan.specs.declared.answer.Found.{Found}
use Rattle.clog_folder.specs.declared.fault.OpenFault.{OpenFault}
use Rattle.clog_folder.specs.declared.fault.OpenFault.TheVariants.{Damaged}
use Rattle.clog_folder.specs.Listing.{Picks}

-- the payload of an entry, by its range in the segment's bytes
abbrev pub payload_in : List ℕ → Found → List ℕ
payload_in bytes found = slice_range bytes (found.start + entry_front_size) (found.end - 4)

-- the payload of this entry is a mutation's
abbrev pub IsGoodIn : List ℕ → Found → Type 0
IsGoodIn bytes found = (mutation : Mutation) × IsPayload (payload_in bytes found) mutation

-- These are the entries that count. None is left out but where damage is passed over.
pub record AreCounted (ignore : Bool) (bytes : List ℕ) (founds kept : List Found) : Type 0 where
  pub picked : Picks (IsGoodIn bytes) founds kept
  pub all : ignore ≡ false → AllByRecursion (IsGoodIn bytes) founds

-- a segment ends clean; the last one may be torn for a soft cause
abbrev pub EndsWell : Bool → End → Type 0
EndsWell last (Clean at) = ⊤
EndsWell last (Torn at cause) = IsSoft cause × (last ≡ true)

-- the segment ends well, where damage is not passed over, or is torn so that it is damage
abbrev pub JudgesEnd : Bool → Bool → List ℕ → End → {T : Type 0} → Result T OpenFault → Type 0
JudgesEnd ignore last name end (result.Ok x) = ignore ≡ false → EndsWell last end
JudgesEnd ignore last name end (result.Err (Damaged other at cause)) =
    (ignore ≡ false) × (other ≡ name) × (end ≡ Torn at cause)
    × (IsSoft cause → ¬ (last ≡ true))
JudgesEnd ignore last name end (result.Err other) = ⊥
