use Rattle.std.proofs.Common.{arith}
use Rattle.clog_mutation.proofs.Judged.{checks, passes, refuses, never_wanting}
use Rattle.clog_mutation.proofs.checking.check.Goals as goal

pub returns-clause-checks : goal.returns-clause-checks
returns-clause-checks c =
    checks c.args.bytes.now c.judge.result (λ i. omega (arith, c.type_inv.bytes i)) c.judge.ensures

pub returns-clause-passes : goal.returns-clause-passes
returns-clause-passes c = passes c.args.bytes.now c.judge.result c.judge.ensures

pub returns-clause-refuses : goal.returns-clause-refuses
returns-clause-refuses c = refuses c.args.bytes.now c.judge.result c.judge.ensures

pub returns-clause-memory : goal.returns-clause-memory
returns-clause-memory c =
    never_wanting c.args.bytes.now c.judge.result
    (checks c.args.bytes.now c.judge.result (λ i. omega (arith, c.type_inv.bytes i))
    c.judge.ensures)
