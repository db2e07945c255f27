use Rattle.std.proofs.Common.{◌≡◌}
use Rattle.write_path.specs.Writes.{said}
use Rattle.write_path.proofs.NoteCopies.{turned}
use Rattle.write_path.proofs.copies.say_in_each.Given as goal

-- so many went to the end
abbrev pub invariant-loop : goal.invariant-loop
invariant-loop l = l.notes ≡ turned (said l.fn.start l.fn.end l.fn.writer) l.fn.notes l.counter
