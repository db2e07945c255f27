use Rattle.std.proofs.Common.{◌≡◌, ℕ, ◌≤◌, List, length, take}
use Rattle.path_core.specs.declared.state.Claim.{Claim}
use Rattle.path_core.specs.Parts.{last_among}
use Rattle.path_machine.proofs.turn_changes.last_kept.Given as goal

-- Behind the rest stands no marker.
pub record IsRest (claims : List Claim) (rest : ℕ) : Type 0 where
  pub inside : rest ≤ length claims
  pub last : last_among claims ≡ last_among (take rest claims)

abbrev pub invariant-loop-rest : goal.invariant-loop-rest
invariant-loop-rest l = IsRest l.claims l.rest

abbrev pub decreases-loop-rest : goal.decreases-loop-rest
decreases-loop-rest l = l.rest
