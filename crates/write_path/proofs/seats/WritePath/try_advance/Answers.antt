use Rattle.std.proofs.Common.{[]}
use Rattle.write_path.proofs.Paying.{paid_by}
use Rattle.write_path.proofs.seats.WritePath.try_advance.Goals as goal

pub invariant_of-seat-clause-paid : goal.invariant_of-seat-clause-paid
invariant_of-seat-clause-paid g c = paid_by c.args.seat.now.member.number [] _ _
    c.try_advance.ensures.steps c.args.seat.now.paid
