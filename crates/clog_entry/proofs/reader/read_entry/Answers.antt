use Rattle.std.proofs.Common.{◌∙◌, sym, arith}
use Rattle.clog_entry.proofs.EntryLaws.{entry_found, entry_again}
use Rattle.clog_entry.proofs.Causes.{entry_soft}
use Rattle.clog_entry.proofs.reader.read_entry.Goals as goal

pub returns-clause-written : goal.returns-clause-written
returns-clause-written c size ok =
    entry_found c.args.bytes.now c.args.at c.args.end size
    (λ i. omega (arith, c.type_inv.bytes i)) c.requires.within (sym c.entry_of.ensures ∙ ok)

pub returns-clause-again : goal.returns-clause-again
returns-clause-again c payload short is =
    c.entry_of.ensures
    ∙ entry_again c.args.bytes.now c.args.at c.args.end payload
    (λ i. omega (arith, c.type_inv.bytes i)) short is

pub returns-clause-soft : goal.returns-clause-soft
returns-clause-soft c cause refused =
    entry_soft c.args.bytes.now c.args.at c.args.end cause (sym c.entry_of.ensures ∙ refused)
