use Rattle.std.proofs.Common.{ℕ, List, ap, slice_set}
use Rattle.path_table.proofs.opening.first_words.Goals as goal

pub returns : goal.returns
returns c = ap (λ (l : List ℕ). slice_set l 32 28)
    (c.in_ok-words.ensures.items_if_clones_equal (λ y e. e))
