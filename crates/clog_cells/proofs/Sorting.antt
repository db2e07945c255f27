-- Pairs that are sorted by key, and within a key with the oldest cell first: where they are put one
-- after another, the newest cell of each key stays.
use Rattle.std.proofs.Common.{◌≡◌, List, [], ◌∷◌, ◌++◌, Bool, true, false, cond, Option, None, Some}
use Rattle.std.proofs.Common.{ℕ, ◌≤◌, ◌<◌, length, refl, sym, ap, subst, ◌∙◌, arith, inl, inr}
use Rattle.std.proofs.Common.{append_assoc, slice_index_or, suc}
use Rattle.std.specs.Prelude.{Contains}
use Rattle.std.specs.declared.cmp.Ordering.{Ordering}
use Rattle.std.specs.declared.cmp.Ordering.TheVariants.{Less, Equal, Greater}
use Rattle.std.specs.Ordering.{is_lt, is_gt, ordering_then, ordering_reverse, eq_by_cmp}
use Rattle.std.specs.Cmp.{IsStrictWeakOrder}
use Rattle.std.specs.Map.{update, update_all}
use Rattle.std.specs.BTreeMap.{BTreeMap, IsFromIterResult}
use Rattle.std.specs.List.Sorted.{IsPermutation, IsSorted}
use Rattle.std.proofs.lemmas.Cmp.{then_total, on_total, tied_itself}
use Rattle.std.proofs.lemmas.List.Sorted.{ranks_by, sorted_far, Contains-permutation}
use Rattle.std.proofs.lemmas.List.Sorted.{IsPermutation-sym}
use Rattle.std.proofs.lemmas.List.{append-nil}
use Rattle.std.proofs.lemmas.List.Elements.{Contains-append_left, Contains-append_right}
use Rattle.std.proofs.lemmas.List.Elements.{Contains-push, Contains-push_cases}
use Rattle.clog_base.specs.declared.cell.Cell.{Cell}
use Rattle.clog_base.specs.declared.cell.CellKey.{CellKey}
use Rattle.clog_cells.specs.Merge.{key_cmp, cell_cmp, pair_cmp, is_newer, IsNewestAt, IsMerge}
use Rattle.clog_cells.proofs.Orders.{key_total, cell_total, one_key}
use Rattle.clog_cells.proofs.Merging.{topped, unrelated, apart_from, of_members}

abbrev Pairs : Type 0
Pairs = List (CellKey × Cell)

pub pairs_rank : IsStrictWeakOrder (λ (a b : CellKey × Cell). is_lt (pair_cmp a b))
pairs_rank = ranks_by
    (then_total (on_total (λ (p : CellKey × Cell). p.0) key_total)
    (on_total (λ (p : CellKey × Cell). p.1) cell_total))
    (λ p. p)

-- ---- of one key, what comes first is not newer

-- of one key, no cell in front is newer than one behind
abbrev IsOlder : Pairs → Pairs → Type 0
IsOlder front back =
    (key : CellKey) (a b : Cell) → Contains front (key, a) → Contains back (key, b)
    → is_newer a b ≡ false

abbrev Rise : Pairs → Type 0
Rise pairs =
    (i j : ℕ) (d : CellKey × Cell) → i ≤ j → j < length pairs
    → is_lt (pair_cmp (slice_index_or pairs j d) (slice_index_or pairs i d)) ≡ false

not_newer_from : (r s : Ordering) → r ≡ ordering_reverse s → is_lt s ≡ false → is_gt r ≡ false
not_newer_from Less s e p = refl
not_newer_from Equal s e p = refl
not_newer_from Greater Less e p = cc
not_newer_from Greater Equal e p = cc
not_newer_from Greater Greater e p = cc

of_one_key : (key : CellKey) (a b : Cell) → is_lt (pair_cmp (key, b) (key, a)) ≡ false
    → is_newer a b ≡ false
of_one_key key a b h =
    not_newer_from (cell_cmp a b) (cell_cmp b a) (cell_total.antisymm a b)
    (ap (λ (o : Ordering). is_lt (ordering_then o (cell_cmp b a))) (sym (tied_itself key_total key))
    ∙ h)

-- the first of what rises is not newer than what comes behind
first_older : (p : CellKey × Cell) (pairs : Pairs) → Rise (p ∷ pairs) → (b : Cell)
    → Contains pairs (p.0, b) → is_newer p.1 b ≡ false
first_older p pairs up b h =
    of_one_key p.0 p.1 b
    (ap (λ (q : CellKey × Cell). is_lt (pair_cmp q p)) (sym h.2)
    ∙ up 0 (suc h.0) (p.0, b) (omega arith) (omega (arith, h.1)))

rest_rise : (p : CellKey × Cell) (pairs : Pairs) → Rise (p ∷ pairs) → Rise pairs
rest_rise p pairs up i j d le lt = up (suc i) (suc j) d (omega (arith, le)) (omega (arith, lt))

behind : (front : Pairs) (p : CellKey × Cell) (back : Pairs) → IsOlder front (p ∷ back)
    → Rise (p ∷ back) → IsOlder (front ++ p ∷ []) back
behind front p back older up key a b there h =
    elim (Contains-push_cases front p (key, a) there) [
      | inl l ↦ older key a b l (Contains-append_right (p ∷ []) back (key, b) h)
      | inr same ↦ subst (λ (q : CellKey × Cell). Contains back (q.0, b) → is_newer q.1 b ≡ false)
          same (first_older p back up b) h
    ]

-- ---- the pairs put one after another: what was put in front, and what is left

at_pair : (front : Pairs) (p : CellKey × Cell) (back : Pairs) → IsOlder front (p ∷ back)
    → (key : CellKey) (old : Option Cell) → IsNewestAt front key old
    → (tie : Bool) → eq_by_cmp key_cmp p.0 key ≡ tie
    → IsNewestAt (front ++ p ∷ []) key (cond tie (Some p.1) old)
at_pair front p back older key old h true e =
    subst (λ (k : CellKey). IsNewestAt (front ++ p ∷ []) k (Some p.1)) (one_key p.0 key e)
    (topped front p.0 p.1 (λ other there. older p.0 other p.1 there
    (Contains-append_left (p ∷ []) back p (Contains-push [] p))))
at_pair front p back older key old h false e =
    unrelated front p key old (apart_from p.0 key e) h

put_all : (front back : Pairs) → IsOlder front back → Rise back → (key : CellKey)
    (found : CellKey → Option Cell) → IsNewestAt front key (found key)
    → IsNewestAt (front ++ back) key (update_all (eq_by_cmp key_cmp) found back key)
put_all front [] older up key found h =
    subst (λ (l : Pairs). IsNewestAt l key (found key)) (sym (append-nil front)) h
put_all front (p ∷ back) older up key found h =
    subst (λ (l : Pairs). IsNewestAt l key
    (update_all (eq_by_cmp key_cmp) found (p ∷ back) key))
    (append_assoc front (p ∷ []) back)
    (put_all (front ++ p ∷ []) back (behind front p back older up) (rest_rise p back up) key
    (update (eq_by_cmp key_cmp) found p.0 (Some p.1))
    (at_pair front p back older key (found key) h (eq_by_cmp key_cmp p.0 key) refl))

-- a map that was made of sorted pairs is their merge
pub of_sorted : (pairs : Pairs) (cells : BTreeMap CellKey Cell) → IsSorted pair_cmp pairs
    → IsFromIterResult key_cmp pairs cells → IsMerge pairs cells.entries
of_sorted pairs cells sorted made = record {
  ordered = made.1;
  newest = λ key. subst (IsNewestAt pairs key) (sym (made.0 key))
      (put_all [] pairs (λ k a b none h. absurd (omega (arith, none.1)))
      (sorted_far (λ a b. is_lt (pair_cmp a b)) pairs_rank pairs sorted) key (λ _. None)
      (λ cell none. omega (arith, none.1)));
}

-- and of the pairs as they stood before the sort
pub of_shuffled : (pairs sorted : Pairs) (cells : BTreeMap CellKey Cell)
    → IsPermutation pairs sorted → IsSorted pair_cmp sorted
    → IsFromIterResult key_cmp sorted cells → IsMerge pairs cells.entries
of_shuffled pairs sorted cells same up made =
    of_members sorted pairs cells.entries
    (λ pair. (
      Contains-permutation sorted pairs pair (IsPermutation-sym pairs sorted same),
      Contains-permutation pairs sorted pair same,
    ))
    (of_sorted sorted cells up made)
