use Rattle.clog_cells.proofs.Batched.{all_merged}
use Rattle.clog_cells.proofs.batches.CellBatches.into_map.Goals as goal

pub returns : goal.returns
returns c cells W = all_merged cells c.args.self c.in_ok-batch.batch _ W c.in_ok-batch.ensures
    c.in_ok-join.ensures
