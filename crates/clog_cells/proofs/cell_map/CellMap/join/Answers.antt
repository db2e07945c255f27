use Rattle.std.proofs.Common.{List, ◌++◌, subst}
use Rattle.clog_base.specs.declared.cell.Cell.{Cell}
use Rattle.clog_base.specs.declared.cell.CellKey.{CellKey}
use Rattle.clog_base.proofs.Follows.{on_ok}
use Rattle.clog_cells.specs.Merge.{IsMerge}
use Rattle.clog_cells.proofs.Merging.{turned}
use Rattle.clog_cells.proofs.cell_map.CellMap.join.Goals as goal

abbrev Pairs : Type 0
Pairs = List (CellKey × Cell)

pub returns-then-len : goal.returns-then-len
returns-then-len c = let new = c.merge.new.self in let old = c.args.self.now in
    on_ok c.merge.result _ _ c.merge.ensures.merged (λ merged. turned c.args.other old new
    (subst (λ (larger : Pairs). IsMerge (larger ++ old) new) c.replace-fewer.ensures.after
    (subst (λ (fewer : Pairs). IsMerge (c.replace-fewer.new.dest ++ fewer) new)
    c.replace-fewer.ensures.value merged)))
