use Rattle.std.proofs.Common.{sym, ◌∙◌}
use Rattle.clog_cells.proofs.Merging.{kept}
use Rattle.clog_cells.proofs.cell_map.put.Goals as goal

pub returns-else-newer-clause-merged : goal.returns-else-newer-clause-merged
returns-else-newer-clause-merged c =
    kept c.args.cells.now.entries c.args.key c.args.cell c.in-Some.found.now
    c.requires.ordered (sym c.in-Some.ensures.value) (sym c.newer.ensures ∙ c.if-newer.false)
