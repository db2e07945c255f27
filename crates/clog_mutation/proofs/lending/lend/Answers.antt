use Rattle.std.proofs.Common.{arith}
use Rattle.clog_mutation.proofs.LentReading.{lends}
use Rattle.clog_mutation.proofs.lending.lend.Goals as goal

pub returns : goal.returns
returns c =
    lends c.args.bytes.now c.whole.result (λ i. omega (arith, c.type_inv.bytes i)) c.whole.ensures
