use Rattle.std.proofs.Common.{◌≡◌, ◌==◌, ℕ, ◌<◌, ◌≤◌, false, get_or}
use Rattle.path_machine.proofs.drop_changes.place_behind.Given as goal

abbrev pub invariant-loop-place : goal.invariant-loop-place
invariant-loop-place l = (k d : ℕ) → l.first ≤ k → k < l.place
    → (get_or l.numbers k d == l.number) ≡ false
