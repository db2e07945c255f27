use Rattle.path_table.specs.Members.{view_of}
use Rattle.clog_shares.proofs.Tallying.{may_paid}
use Rattle.clog_shares.proofs.flushing.flush_due.Goals as goal

pub returns-then-not-is_any_due-clause-paid : goal.returns-then-not-is_any_due-clause-paid
returns-then-not-is_any_due-clause-paid g c = λ all.
    may_paid c.args.seat.member.number c.args.tally (view_of c.args.seat.member).trail all
