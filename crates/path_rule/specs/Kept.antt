-- What a keeper may have kept of a sync that was refused: the entries up to a marker, all of which
-- were deposited when it was lent them.
use Rattle.std.specs.Prelude.{◌≡◌, ◌⊎◌, ℕ, ◌≤◌, Some, IsTrue}
use Rattle.std.specs.List.{Contains, count_by}
use Rattle.path_core.specs.declared.seat.LastMarker.{LastMarker}
use Rattle.path_core.specs.declared.state.Claim.{Claim}
use Rattle.path_core.specs.declared.state.PathState.{PathState}
use Rattle.path_core.specs.LawfulLog.{is_note_at}
use Rattle.path_core.specs.Parts.{is_entry, is_marker}
use Rattle.path_core.specs.Parts.{last_kept}

-- A marker starts at the key, which is not above the last one, and each entry up to there is noted.
pub record IsDepositedTo (x : PathState) (key : ℕ) : Type 0 where
  pub marker : Claim
  pub claimed : Contains x.claims marker
  pub is : IsTrue (is_marker marker)
  pub start : marker.start ≡ key
  pub not_above : (k : LastMarker) → last_kept x.claims ≡ Some k → key ≤ k.start
  pub noted : (c : Claim) → Contains x.claims c → IsTrue (is_entry c) → c.end ≤ key
      → count_by (is_note_at c.end) x.notes ≡ 1

-- A sync up to the key may have been refused; or the log is lasting up to there.
abbrev pub MayBeKept : PathState → ℕ → Type 0
MayBeKept x key = (key ≤ x.synced) ⊎ IsDepositedTo x key
