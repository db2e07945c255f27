-- Rows are parted at a table: those of lower tables, and those of the others. What is below the
-- next table, of what stands from a table on, is the table's.
use Rattle.std.proofs.Common.{◌≡◌, ◌+◌, ℕ, List, [], ◌∷◌, Bool, true, false, cond, not, nat_lt}
use Rattle.std.proofs.Common.{◌==◌, refl, sym, ap, ◌∙◌, inl, inr, arith, eq-eqb, ne_eqb, eqb-true}
use Rattle.std.proofs.Common.{lt-ltb, le-ltb, ltb-true, ltb-false}
use Rattle.std.proofs.lemmas.Bool.{cases_lt, eqb-false}
use Rattle.std.specs.List.{filter}
use Rattle.std.specs.Ordering.{nat_cmp, ordering_then, is_gt, is_le}
use Rattle.std.specs.declared.cmp.Ordering.{Ordering}
use Rattle.std.specs.declared.cmp.Ordering.TheVariants.{Less, Equal, Greater}
use Rattle.std.specs.Cmp.Lexicographic.{slice_cmp}
use Rattle.clog_base.specs.declared.cell.Cell.{Cell}
use Rattle.clog_base.specs.declared.cell.CellKey.{CellKey}
use Rattle.clog_base.specs.declared.cell.Table.{Table}
use Rattle.clog_cells.specs.Merge.{key_cmp, part_on}
use Rattle.clog_cells.specs.Parted.{part_below, part_from}

abbrev Pairs : Type 0
Pairs = List (CellKey × Cell)

-- ---- tests of pairs

same_test : (f g : CellKey × Cell → Bool) → ((pair : CellKey × Cell) → f pair ≡ g pair)
    → (rows : Pairs) → filter f rows ≡ filter g rows
same_test f g same [] = refl
same_test f g same (x ∷ xs) =
    λ i. cond (same x i) (x ∷ same_test f g same xs i) (same_test f g same xs i)

all_pass : (f : CellKey × Cell → Bool) → ((pair : CellKey × Cell) → f pair ≡ true)
    → (rows : Pairs) → filter f rows ≡ rows
all_pass f pass [] = refl
all_pass f pass (x ∷ xs) = λ i. cond (pass x i) (x ∷ all_pass f pass xs i) (all_pass f pass xs i)

one_of_both : (f : CellKey × Cell → Bool) (x : CellKey × Cell) (some picked : Pairs)
    (first both : Bool) → cond first (f x) false ≡ both → filter f some ≡ picked
    → filter f (cond first (x ∷ some) some) ≡ cond both (x ∷ picked) picked
one_of_both f x some picked true both same rest =
    λ i. cond (same i) (x ∷ rest i) (rest i)
one_of_both f x some picked false both same rest =
    rest ∙ ap (λ (b : Bool). cond b (x ∷ picked) picked) same

-- what passes two tests
both_tests : (f g h : CellKey × Cell → Bool)
    → ((pair : CellKey × Cell) → cond (g pair) (f pair) false ≡ h pair)
    → (rows : Pairs) → filter f (filter g rows) ≡ filter h rows
both_tests f g h same [] = refl
both_tests f g h same (x ∷ xs) =
    one_of_both f x (filter g xs) (filter h xs) (g x) (h x) (same x) (both_tests f g h same xs)

-- ---- the front of a table

empty_is_first : (key column : List ℕ)
    → is_gt (ordering_then (slice_cmp nat_cmp [] key) (slice_cmp nat_cmp [] column)) ≡ false
empty_is_first [] [] = refl
empty_is_first [] (x ∷ xs) = refl
empty_is_first (x ∷ xs) column = refl

by_number : (t n : ℕ) (rest : Ordering) (less same : Bool) → is_gt rest ≡ false
    → nat_lt t n ≡ less → (t == n) ≡ same
    → is_gt (ordering_then (cond less Less (cond same Equal Greater)) rest) ≡ nat_lt n t
by_number t n rest true same first l s =
    sym (le-ltb n t (let less = ltb-true t n l in omega (arith, less)))
by_number t n rest false true first l s =
    first ∙ sym (le-ltb n t (let tie = eqb-true t n s in omega (arith, tie)))
by_number t n rest false false first l s =
    sym (lt-ltb n t (elim (cases_lt n t) [
      | inl less ↦ less
      | inr up ↦ absurd (eqb-false t n s (let low = ltb-false t n l in omega (arith, low, up)))
    ]))

-- the front of a table is above just the keys of lower tables
below_front : (front : CellKey) → front.key ≡ [] → front.column ≡ [] → (key : CellKey)
    → is_gt (key_cmp front key) ≡ nat_lt key.table.0 front.table.0
below_front front no_key no_column key =
    ap (λ (bytes : List ℕ). is_gt (ordering_then (nat_cmp front.table.0 key.table.0)
    (ordering_then (slice_cmp nat_cmp bytes key.key)
    (slice_cmp nat_cmp front.column key.column)))) no_key
    ∙ ap (λ (bytes : List ℕ). is_gt (ordering_then (nat_cmp front.table.0 key.table.0)
    (ordering_then (slice_cmp nat_cmp [] key.key) (slice_cmp nat_cmp bytes key.column))))
    no_column
    ∙ by_number front.table.0 key.table.0
    (ordering_then (slice_cmp nat_cmp [] key.key) (slice_cmp nat_cmp [] key.column))
    (nat_lt front.table.0 key.table.0) (front.table.0 == key.table.0)
    (empty_is_first key.key key.column) refl refl

other_side : (order : Ordering) → is_le order ≡ not (is_gt order)
other_side Less = refl
other_side Equal = refl
other_side Greater = refl

module _ (front : CellKey) (no_key : front.key ≡ []) (no_column : front.column ≡ [])
    (table : Table) (its : front.table ≡ table) (rows : Pairs) where
  pub cut_below : filter (λ pair. is_gt (key_cmp front pair.0)) rows ≡ part_below table.0 rows
  cut_below =
      same_test (λ pair. is_gt (key_cmp front pair.0))
      (λ pair. nat_lt pair.0.table.0 front.table.0)
      (λ pair. below_front front no_key no_column pair.0) rows
      ∙ ap (λ (t : Table). part_below t.0 rows) its

  pub cut_from : filter (λ pair. is_le (key_cmp front pair.0)) rows ≡ part_from table.0 rows
  cut_from =
      same_test (λ pair. is_le (key_cmp front pair.0))
      (λ pair. not (nat_lt pair.0.table.0 front.table.0))
      (λ pair. other_side (key_cmp front pair.0)
      ∙ ap not (below_front front no_key no_column pair.0)) rows
      ∙ ap (λ (t : Table). part_from t.0 rows) its

-- ---- table by table

is_table : (n t : ℕ) (lower : Bool) → nat_lt n t ≡ lower
    → cond (not lower) (nat_lt n (t + 1)) false ≡ (n == t)
is_table n t true l =
    sym (ne_eqb n t (λ same. let less = ltb-true n t l in omega (arith, less, same)))
is_table n t false l = elim (cases_lt t n) [
  | inl above ↦ le-ltb n (t + 1) (omega (arith, above))
      ∙ sym (ne_eqb n t (λ same. omega (arith, above, same)))
  | inr up ↦
      let low = ltb-false n t l in
      lt-ltb n (t + 1) (omega (arith, up)) ∙ sym (eq-eqb n t (omega (arith, low, up)))
]

pub below_next : (table : Table) (rows : Pairs)
    → part_below (table.0 + 1) (part_from table.0 rows) ≡ part_on table rows
below_next table rows =
    both_tests (λ pair. nat_lt pair.0.table.0 (table.0 + 1))
    (λ pair. not (nat_lt pair.0.table.0 table.0)) (λ pair. pair.0.table.0 == table.0)
    (λ pair. is_table pair.0.table.0 table.0 (nat_lt pair.0.table.0 table.0) refl) rows

is_further : (n t : ℕ) (lower : Bool) → nat_lt n t ≡ lower
    → cond (not lower) (not (nat_lt n (t + 1))) false ≡ not (nat_lt n (t + 1))
is_further n t true l =
    sym (ap not (lt-ltb n (t + 1) (let less = ltb-true n t l in omega (arith, less))))
is_further n t false l = refl

pub from_next : (number : ℕ) (rows : Pairs)
    → part_from (number + 1) (part_from number rows) ≡ part_from (number + 1) rows
from_next number rows =
    both_tests (λ pair. not (nat_lt pair.0.table.0 (number + 1)))
    (λ pair. not (nat_lt pair.0.table.0 number))
    (λ pair. not (nat_lt pair.0.table.0 (number + 1)))
    (λ pair. is_further pair.0.table.0 number (nat_lt pair.0.table.0 number) refl) rows

pub from_first : (rows : Pairs) → part_from 0 rows ≡ rows
from_first rows =
    all_pass (λ pair. not (nat_lt pair.0.table.0 0))
    (λ pair. ap not (le-ltb pair.0.table.0 0 (omega arith))) rows

-- the same of rows of which the lower tables were taken off before
pub of_next : (table : Table) (all rest part : Pairs) → rest ≡ part_from table.0 all
    → part ≡ part_below (table.0 + 1) rest → part ≡ part_on table all
of_next table all rest part before is =
    is ∙ ap (λ (l : Pairs). part_below (table.0 + 1) l) before ∙ below_next table all

pub rest_next : (number : ℕ) (all rest new : Pairs) → rest ≡ part_from number all
    → new ≡ part_from (number + 1) rest → new ≡ part_from (number + 1) all
rest_next number all rest new before is =
    is ∙ ap (λ (l : Pairs). part_from (number + 1) l) before ∙ from_next number all
