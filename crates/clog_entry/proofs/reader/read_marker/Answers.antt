use Rattle.std.proofs.Common.{◌∙◌, sym, arith}
use Rattle.clog_entry.proofs.MarkerLaws.{marker_found, marker_again}
use Rattle.clog_entry.proofs.Causes.{marker_soft}
use Rattle.clog_entry.proofs.reader.read_marker.Goals as goal

pub returns-clause-written : goal.returns-clause-written
returns-clause-written c end ok =
    marker_found c.args.bytes.now c.args.id c.args.at end
    (λ i. omega (arith, c.type_inv.bytes i)) (sym c.marker_of.ensures ∙ ok)

pub returns-clause-again : goal.returns-clause-again
returns-clause-again c end short is =
    c.marker_of.ensures ∙ marker_again c.args.bytes.now c.args.id c.args.at end short is

pub returns-clause-soft : goal.returns-clause-soft
returns-clause-soft c cause refused =
    marker_soft c.args.bytes.now c.args.id c.args.at cause (sym c.marker_of.ensures ∙ refused)
