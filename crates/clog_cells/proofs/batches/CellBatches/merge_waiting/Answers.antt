use Rattle.std.proofs.Common.{Global, List, Vec, ap, ◌∙◌, subst}
use Rattle.clog_base.specs.declared.cell.Cell.{Cell}
use Rattle.clog_base.specs.declared.cell.CellKey.{CellKey}
use Rattle.clog_base.proofs.Follows.{on_ok}
use Rattle.clog_cells.specs.Merge.{IsMerge}
use Rattle.clog_cells.proofs.Batched.{none_waits}
use Rattle.clog_cells.proofs.batches.CellBatches.merge_waiting.Goals as goal

pub returns : goal.returns
returns c = let batch = c.in_ok-batch.batch in
    on_ok c.join.result _ _ c.join.ensures (λ both. none_waits c.args.self.now _ batch
    (subst (λ (l : List (CellKey × Cell)). IsMerge l batch)
    (ap (λ (v : Vec (CellKey × Cell) Global). v.items) c.replace-first.ensures.value)
    c.in_ok-batch.ensures) both
    (ap (λ (v : Vec (CellKey × Cell) Global). v.items) c.replace-first.ensures.after
    ∙ c.new.ensures.items))
