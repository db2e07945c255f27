use Rattle.std.proofs.Common.{ℕ, Contains, take}
use Rattle.std.specs.Prelude.{◌↔◌, ◌⊎◌}
use Rattle.clog_due.specs.Dropping.{HasEntry}
use Rattle.clog_due.proofs.counted.hold_all.Given as goal

-- of the entries seen
abbrev pub invariant-loop-note : goal.invariant-loop-note
invariant-loop-note l = (o : ℕ) → Contains l.held.items o
    ↔ (Contains l.fn.held.items o ⊎ HasEntry (take l.note-index l.notes) o)
