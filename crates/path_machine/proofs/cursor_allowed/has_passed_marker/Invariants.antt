use Rattle.std.proofs.Common.{ℕ, ◌<◌, get_or}
use Rattle.path_core.specs.declared.state.Claim.{Claim}
use Rattle.path_core.specs.Markers.{IsPassedMarker}
use Rattle.path_machine.proofs.cursor_allowed.has_passed_marker.Given as goal

abbrev pub invariant-loop-claim : goal.invariant-loop-claim
invariant-loop-claim l = (k : ℕ) (d : Claim) → k < l.claim-index
    → IsPassedMarker (get_or l.claims k d) l.tallies l.key → ⊥
