use Rattle.std.proofs.Common.{sym, arith}
use Rattle.path_machine.proofs.steps.Logged.{all_last}
use Rattle.path_machine.proofs.drop_changes.are_logged.Goals as goal

pub returns : goal.returns
returns c =
    let past = c.loop-claim-test.false in
    sym (all_last c.args.segment c.args.logged.now c.args.claims.now
    (λ k d inside. c.loop-claim.invariant k d (omega arith)))
