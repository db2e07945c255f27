use Rattle.clog_cells.proofs.Batched.{none_put}
use Rattle.clog_cells.proofs.batches.CellBatches.new.Goals as goal

pub returns : goal.returns
returns c = none_put _ c.new.ensures c.new-2.ensures.items
