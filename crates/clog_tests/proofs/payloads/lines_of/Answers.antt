use Rattle.std.proofs.Common.{subst, sym}
use Rattle.std.specs.List.{AllByRecursion}
use Rattle.clog_base.proofs.Members.{all_more}
use Rattle.clog_mutation.specs.Limits.{IsWithinLimits}
use Rattle.clog_tests.proofs.payloads.lines_of.Goals as goal

pub loop-payload-preserved : goal.loop-payload-preserved
loop-payload-preserved c =
    subst (AllByRecursion IsWithinLimits) (sym c.in_ok-push-in-Ok.ensures.items)
    (all_more IsWithinLimits c.loop-payload.lines.items c.in-Ok.line c.loop-payload.invariant
    c.in-Ok.ensures.within)
