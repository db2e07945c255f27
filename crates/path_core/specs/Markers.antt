-- Markers of the log, found among the claims by their keys and their barriers.
use Rattle.std.specs.Prelude.{◌≡◌, ◌≤◌, ℕ, List, IsTrue, Some}
use Rattle.std.specs.List.{Contains}
use Rattle.op_core.specs.declared.count.Tally.{Tally}
use Rattle.op_core.specs.Tallies.{IsPassed}
use Rattle.path_core.specs.declared.state.Claim.{Claim}
use Rattle.path_core.specs.Parts.{is_marker}

-- A marker starts at the key.
pub record HasMarkerAt (claims : List Claim) (key : ℕ) : Type 0 where
  pub marker : Claim
  pub among : Contains claims marker
  pub is : IsTrue (is_marker marker)
  pub start : marker.start ≡ key

-- The claim is a marker at or above the key whose barrier is passed.
pub record IsPassedMarker (c : Claim) (tallies : List Tally) (key : ℕ) : Type 0 where
  pub is : IsTrue (is_marker c)
  pub start : key ≤ c.start
  pub group : ℕ
  pub issued : c.barrier ≡ Some group
  pub passed : IsPassed tallies group

-- There is such a marker among the claims.
pub record HasPassedMarker (claims : List Claim) (tallies : List Tally) (key : ℕ) : Type 0 where
  pub marker : Claim
  pub among : Contains claims marker
  pub passed : IsPassedMarker marker tallies key
