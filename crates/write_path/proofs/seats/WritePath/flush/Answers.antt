use Rattle.std.proofs.Common.{ap, arith}
use Rattle.path_rule.specs.Issued.{issued_in}
use Rattle.path_rule.proofs.log.Issues.{issued_both}
use Rattle.write_path.proofs.seats.WritePath.flush.Goals as goal

pub returns-clause-issued : goal.returns-clause-issued
returns-clause-issued g c = let S = c.flush_memtable.ensures.flushes.steps in
    let all = ap issued_in S.trail in
    let both = issued_both S.steps c.args.seat.member.seat.me.0.trail in
    let few = S.issues in omega (arith, all, both, few)
