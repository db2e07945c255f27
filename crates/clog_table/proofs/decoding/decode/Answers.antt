use Rattle.clog_table.proofs.Again.{decodes_to_it, can_be_written}
use Rattle.clog_table.proofs.OneFault.{refused_so}
use Rattle.clog_table.proofs.decoding.decode.Goals as goal

pub returns-clause-again : goal.returns-clause-again
returns-clause-again c = λ file f. decodes_to_it c.args.table c.args.bytes.now file f
    c.decoded.result c.decoded.ensures

pub returns-clause-writable : goal.returns-clause-writable
returns-clause-writable c =
    can_be_written c.args.table c.args.bytes.now c.decoded.result c.decoded.ensures

pub returns-clause-refuses : goal.returns-clause-refuses
returns-clause-refuses c = λ fault h known. refused_so c.args.table c.args.bytes.now fault h known
    c.decoded.result c.decoded.ensures
