use Rattle.std.proofs.Common.{◌∙◌, sym, arith}
use Rattle.clog_entry.proofs.HeaderLaws.{header_found, header_again}
use Rattle.clog_entry.proofs.Causes.{header_refused, header_passed}
use Rattle.clog_entry.proofs.reader.read_header.Goals as goal

pub returns-clause-written : goal.returns-clause-written
returns-clause-written c ok =
    header_found c.args.bytes.now c.args.id (λ i. omega (arith, c.type_inv.bytes i))
    (sym c.header_of.ensures ∙ ok)

pub returns-clause-again : goal.returns-clause-again
returns-clause-again c is =
    c.header_of.ensures ∙ header_again c.args.bytes.now c.args.id c.ranges.id.fits is

pub returns-clause-refused : goal.returns-clause-refused
returns-clause-refused c cause refused =
    header_refused c.args.bytes.now c.args.id cause (sym c.header_of.ensures ∙ refused)

pub returns-clause-passed : goal.returns-clause-passed
returns-clause-passed c cause passes refused =
    header_passed c.args.bytes.now c.args.id cause passes (sym c.header_of.ensures ∙ refused)
