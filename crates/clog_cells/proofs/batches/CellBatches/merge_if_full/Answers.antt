use Rattle.clog_cells.proofs.batches.CellBatches.merge_if_full.Goals as goal

pub returns : goal.returns
returns c = c.merge_waiting.ensures
