use Rattle.std.proofs.Common.{refl}
use Rattle.clog_base.specs.declared.cell.Cell.{Cell}
use Rattle.clog_base.specs.declared.cell.CellKey.{CellKey}
use Rattle.clog_cells.proofs.Batched.{one_merged}
use Rattle.clog_cells.proofs.batches.CellBatches.put.Goals as goal

pub returns : goal.returns
returns c = let pair : CellKey × Cell = (c.args.key, c.args.cell) in
    one_merged c.args.self.now _ pair c.in-Ok.ensures.merged refl
