use Rattle.std.proofs.Common.{◌≡◌, ◌∙◌, sym, subst}
use Rattle.std.specs.BTreeMap.{IsFromIterResult}
use Rattle.std.proofs.lemmas.List.{map-id}
use Rattle.std.proofs.lemmas.Iterator.{items_from_drains}
use Rattle.std.proofs.lemmas.Iterator.Adapters.{YieldsList-from_vec}
use Rattle.clog_cells.specs.Merge.{key_cmp}
use Rattle.clog_cells.proofs.Sorting.{of_shuffled}
use Rattle.clog_cells.proofs.bulk.map_of.Goals as goal

pub returns-clause-merged : goal.returns-clause-merged
returns-clause-merged c =
    let sorted = c.sort_oldest_first.new.pairs in
    let ran = c.in_ok-cells.ensures.ran in
    let all : ran.1 ≡ sorted.items =
    sym (map-id ran.1) ∙ items_from_drains ran.1 ran.3
    (YieldsList-from_vec sorted.items ran.2.0 (ran.2.1 ∙ sorted.ok.0)) in
    of_shuffled c.args.pairs.items sorted.items c.in_ok-cells.cells
    c.in_ok-sort_oldest_first.ensures.same c.in_ok-sort_oldest_first.ensures.sorted
    (subst (λ l. IsFromIterResult key_cmp l c.in_ok-cells.cells) all ran.4)
