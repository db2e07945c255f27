use Rattle.std.proofs.Common.{arith}
use Rattle.clog_mutation.proofs.Decoding.{decodes, within, reads, refuses}
use Rattle.clog_mutation.proofs.reading.decode.Goals as goal

pub returns-clause-decodes : goal.returns-clause-decodes
returns-clause-decodes c =
    decodes c.args.bytes.now c.whole.result (λ i. omega (arith, c.type_inv.bytes i)) c.whole.ensures

pub returns-clause-reads : goal.returns-clause-reads
returns-clause-reads c = reads c.args.bytes.now c.whole.result c.whole.ensures

pub returns-clause-refuses : goal.returns-clause-refuses
returns-clause-refuses c = refuses c.args.bytes.now c.whole.result c.whole.ensures

pub returns-clause-within : goal.returns-clause-within
returns-clause-within c =
    within c.args.bytes.now c.whole.result
    (decodes c.args.bytes.now c.whole.result
    (λ i. omega (arith, c.type_inv.bytes i)) c.whole.ensures)
