use Rattle.std.proofs.Common.{ℕ, Contains, take}
use Rattle.std.specs.Prelude.{◌↔◌}
use Rattle.clog_due.proofs.droppable.set_of.Given as goal

-- of the numbers seen
abbrev pub invariant-loop-number : goal.invariant-loop-number
invariant-loop-number l = (o : ℕ) → Contains l.set.keys o
    ↔ Contains (take l.number-index l.numbers) o
