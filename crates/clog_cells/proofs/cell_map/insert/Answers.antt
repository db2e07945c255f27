use Rattle.clog_cells.proofs.Merging.{grown}
use Rattle.clog_cells.proofs.cell_map.insert.Goals as goal

pub returns-in-Ok-clause-merged : goal.returns-in-Ok-clause-merged
returns-in-Ok-clause-merged c =
    grown c.args.cells.now.entries c.insert.new.self.entries c.args.key c.args.cell
    c.requires.map.ordered c.in-Ok.ensures.ordered c.requires.newer c.in-Ok.ensures.updates.0
