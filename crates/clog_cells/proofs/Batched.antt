-- Cells that are put one by one: some are merged, and the others wait.
use Rattle.std.proofs.Common.{
  ◌≡◌,
  List,
  [],
  ◌∷◌,
  ◌++◌,
  ⊎_elim,
  sym,
  ap,
  ◌∙◌,
  subst,
  append_assoc,
}
use Rattle.std.specs.Prelude.{Contains}
use Rattle.std.proofs.lemmas.List.{append-nil}
use Rattle.std.proofs.lemmas.List.Elements.{
  Contains-append_cases,
  Contains-append_left,
  Contains-append_right,
}
use Rattle.clog_base.specs.declared.cell.Cell.{Cell}
use Rattle.clog_base.specs.declared.cell.CellKey.{CellKey}
use Rattle.clog_cells.specs.Batches.{Adds, WerePut}
use Rattle.clog_cells.specs.Merge.{HaveSameMembers, IsMerge}
use Rattle.clog_cells.specs.declared.batches.CellBatches.{CellBatches}
use Rattle.clog_cells.proofs.InOrder.{nothing_in_order}
use Rattle.clog_cells.proofs.Merging.{continues, joins, of_itself, of_members}

abbrev Pairs : Type 0
Pairs = List (CellKey × Cell)

-- ---- lists with the same members

same_lists : (xs ys : Pairs) → xs ≡ ys → HaveSameMembers xs ys
same_lists xs ys same pair =
    (subst (λ (l : Pairs). Contains l pair) same, subst (λ (l : Pairs). Contains l pair) (sym same))

-- each member of a list and of more is one of another list and of the same more, wherever that
-- stands in it
kept_more : (xs front back more : Pairs)
    → ((pair : CellKey × Cell) → Contains xs pair → Contains (front ++ back) pair)
    → (pair : CellKey × Cell) → Contains (xs ++ more) pair
    → Contains ((front ++ more) ++ back) pair
kept_more xs front back more kept pair h = ⊎_elim
    (λ old. ⊎_elim
    (λ first. Contains-append_left (front ++ more) back pair
    (Contains-append_left front more pair first))
    (λ last. Contains-append_right (front ++ more) back pair last)
    (Contains-append_cases front back pair (kept pair old)))
    (λ new. Contains-append_left (front ++ more) back pair
    (Contains-append_right front more pair new))
    (Contains-append_cases xs more pair h)

back_more : (xs front back more : Pairs)
    → ((pair : CellKey × Cell) → Contains (front ++ back) pair → Contains xs pair)
    → (pair : CellKey × Cell) → Contains ((front ++ more) ++ back) pair
    → Contains (xs ++ more) pair
back_more xs front back more kept pair h = ⊎_elim
    (λ first. ⊎_elim
    (λ old. Contains-append_left xs more pair
    (kept pair (Contains-append_left front back pair old)))
    (λ new. Contains-append_right xs more pair new)
    (Contains-append_cases front more pair first))
    (λ last. Contains-append_left xs more pair
    (kept pair (Contains-append_right front back pair last)))
    (Contains-append_cases (front ++ more) back pair h)

more_between : (xs front back more : Pairs) → HaveSameMembers xs (front ++ back)
    → HaveSameMembers (xs ++ more) ((front ++ more) ++ back)
more_between xs front back more same pair = (
  kept_more xs front back more (λ p. (same p).0) pair,
  back_more xs front back more (λ p. (same p).1) pair,
)

-- ---- what was put

pub none_put : (b : CellBatches) → b.merged ≡ [] → b.waiting.items ≡ [] → WerePut [] b
none_put b none_merged none_wait = record {
  done = [];
  merged = subst (IsMerge []) (sym none_merged) (of_itself [] nothing_in_order);
  parts = same_lists [] b.waiting.items (sym none_wait);
}

pub adds_none : (b : CellBatches) → Adds [] b b
adds_none b cells W = subst (λ (l : Pairs). WerePut l b) (sym (append-nil cells)) W

-- some cells are put, and then others
pub adds_both : (first middle last : CellBatches) (some more : Pairs) → Adds some first middle
    → Adds more middle last → Adds (some ++ more) first last
adds_both first middle last some more A B cells W =
    subst (λ (l : Pairs). WerePut l last) (append_assoc cells some more)
    (B (cells ++ some) (A cells W))

-- what waits is merged
pub all_merged : (cells : Pairs) (b : CellBatches) (batch rows : Pairs) → WerePut cells b
    → IsMerge b.waiting.items batch → IsMerge (b.merged ++ batch) rows → IsMerge cells rows
all_merged cells b batch rows W of_batch of_both =
    of_members (W.done ++ b.waiting.items) cells rows (λ pair. ((W.parts pair).1, (W.parts pair).0))
    (joins W.done b.waiting.items b.merged batch rows W.merged of_batch of_both)

pub none_waits : (before now : CellBatches) (batch : Pairs) → IsMerge before.waiting.items batch
    → IsMerge (before.merged ++ batch) now.merged → now.waiting.items ≡ [] → Adds [] before now
none_waits before now batch of_batch of_both none cells W = record {
  done = cells;
  merged = all_merged cells before batch now.merged W of_batch of_both;
  parts = same_lists (cells ++ []) (cells ++ now.waiting.items)
      (ap (λ (l : Pairs). cells ++ l) (sym none));
}

-- one cell more waits
pub one_waits : (before now : CellBatches) (pair : CellKey × Cell) → now.merged ≡ before.merged
    → now.waiting.items ≡ before.waiting.items ++ pair ∷ [] → Adds (pair ∷ []) before now
one_waits before now pair same more cells W = record {
  done = W.done;
  merged = subst (IsMerge W.done) (sym same) W.merged;
  parts = subst (HaveSameMembers (cells ++ pair ∷ []))
      (append-nil ((W.done ++ before.waiting.items) ++ pair ∷ [])
      ∙ append_assoc W.done before.waiting.items (pair ∷ [])
      ∙ ap (λ (l : Pairs). W.done ++ l) (sym more))
      (more_between cells (W.done ++ before.waiting.items) [] (pair ∷ [])
      (subst (HaveSameMembers cells) (sym (append-nil (W.done ++ before.waiting.items)))
      W.parts));
}

-- one cell more is merged
pub one_merged : (before now : CellBatches) (pair : CellKey × Cell)
    → IsMerge (before.merged ++ pair ∷ []) now.merged
    → now.waiting.items ≡ before.waiting.items → Adds (pair ∷ []) before now
one_merged before now pair merges same cells W = record {
  done = W.done ++ pair ∷ [];
  merged = continues W.done before.merged (pair ∷ []) now.merged W.merged merges;
  parts = subst (λ (l : Pairs).
      HaveSameMembers (cells ++ pair ∷ []) ((W.done ++ pair ∷ []) ++ l)) (sym same)
      (more_between cells W.done before.waiting.items (pair ∷ []) W.parts);
}
