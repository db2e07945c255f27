use Rattle.std.proofs.Common.{rules}
use Rattle.std.proofs.lemmas.List.Sorted.{answers_always}
use Rattle.clog_cells.proofs.Sorting.{pairs_rank}
use Rattle.clog_cells.proofs.bulk.sort_oldest_first.Goals as goal

pub returns-clause-sorted : goal.returns-clause-sorted
returns-clause-sorted c = c.in_ok-sort_by.ensures.sorted _ pairs_rank
    (answers_always _ _ _ (λ f a r g h. search rules))
