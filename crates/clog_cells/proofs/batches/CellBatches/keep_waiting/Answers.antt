use Rattle.std.proofs.Common.{[], ◌∷◌, refl}
use Rattle.clog_base.specs.declared.cell.Cell.{Cell}
use Rattle.clog_base.specs.declared.cell.CellKey.{CellKey}
use Rattle.clog_cells.proofs.Batched.{adds_both, one_waits}
use Rattle.clog_cells.proofs.batches.CellBatches.keep_waiting.Goals as goal

pub returns : goal.returns
returns c = let pair : CellKey × Cell = (c.args.key, c.args.cell) in
    let middle = c.merge_if_full.new.self in
    adds_both c.args.self.now middle _ [] (pair ∷ []) c.in_ok-merge_if_full.ensures
    (one_waits middle _ pair refl c.in_ok-push.ensures.items)
