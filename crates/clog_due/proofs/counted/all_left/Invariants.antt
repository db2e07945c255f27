use Rattle.std.proofs.Common.{ℕ, Contains, take}
use Rattle.std.specs.Prelude.{◌↔◌}
use Rattle.clog_due.proofs.counted.all_left.Given as goal

-- of the segments seen
abbrev pub invariant-loop-ordinal : goal.invariant-loop-ordinal
invariant-loop-ordinal l = (o : ℕ) → Contains l.left.items o
    ↔ (Contains (take l.ordinal-index l.held) o × (Contains l.gone.keys o → ⊥))
