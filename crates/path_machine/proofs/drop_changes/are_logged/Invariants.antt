use Rattle.std.proofs.Common.{◌≡◌, ◌||◌, not, ℕ, ◌<◌, true, get_or}
use Rattle.path_core.specs.declared.state.Claim.{Claim}
use Rattle.path_core.specs.Droppable.{is_logged}
use Rattle.path_core.specs.Parts.{is_entry_in}
use Rattle.path_machine.proofs.drop_changes.are_logged.Given as goal

abbrev pub invariant-loop-claim : goal.invariant-loop-claim
invariant-loop-claim l = (k : ℕ) (d : Claim) → k < l.claim-index
    → (not (is_entry_in l.segment (get_or l.claims k d))
    || is_logged l.logged (get_or l.claims k d).end) ≡ true
