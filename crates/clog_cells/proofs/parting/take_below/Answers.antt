use Rattle.std.proofs.Common.{BTreeMap, ap, ◌∙◌}
use Rattle.clog_base.specs.declared.cell.Cell.{Cell}
use Rattle.clog_base.specs.declared.cell.CellKey.{CellKey}
use Rattle.clog_cells.proofs.Parted.{cut_below, cut_from}
use Rattle.clog_cells.proofs.parting.take_below.Goals as goal

pub returns-in-Ok-clause-taken : goal.returns-in-Ok-clause-taken
returns-in-Ok-clause-taken c =
    let front = c.front_of-front.ensures in
    ap (λ (m : BTreeMap CellKey Cell). m.entries) c.replace.ensures.value ∙ c.in-Ok.ensures.below
    ∙ cut_below c.front_of-front.result front.key front.column c.args.table front.table
    c.args.cells.now.entries

pub returns-in-Ok-clause-rest : goal.returns-in-Ok-clause-rest
returns-in-Ok-clause-rest c =
    let front = c.front_of-front.ensures in
    ap (λ (m : BTreeMap CellKey Cell). m.entries) c.replace.ensures.after ∙ c.in-Ok.ensures.from
    ∙ cut_from c.front_of-front.result front.key front.column c.args.table front.table
    c.args.cells.now.entries
