use Rattle.std.proofs.Common.{◌≡◌, ℕ, ◌<◌, get_or}
use Rattle.std.specs.Prelude.{IsTrue}
use Rattle.path_core.specs.declared.state.Claim.{Claim}
use Rattle.path_core.specs.Parts.{is_marker}
use Rattle.path_machine.proofs.cursor_allowed.has_marker_at.Given as goal

abbrev pub invariant-loop-claim : goal.invariant-loop-claim
invariant-loop-claim l = (k : ℕ) (d : Claim) → k < l.claim-index
    → IsTrue (is_marker (get_or l.claims k d)) → (get_or l.claims k d).start ≡ l.key → ⊥
