-- Each list of cells has a merge.
use Rattle.std.proofs.Common.{
  ◌≡◌,
  List,
  [],
  ◌∷◌,
  ◌++◌,
  Bool,
  true,
  false,
  cond,
  Option,
  Some,
  None,
  refl,
  sym,
  ap,
  subst,
  ◌∙◌,
  append_assoc,
}
use Rattle.std.specs.Prelude.{IfSome, T}
use Rattle.std.specs.Ordering.{eq_by_cmp, is_lt}
use Rattle.std.specs.declared.cmp.Ordering.TheVariants.{Less}
use Rattle.std.specs.Map.{keys_of}
use Rattle.std.specs.BTreeMap.{is_at}
use Rattle.std.specs.FinMap.{FinMap, entries, from_sorted, insert, get, get-insert}
use Rattle.std.specs.FinMap.{get-entries, get-from_sorted, entries_sorted, is_sorted}
use Rattle.std.specs.FinMap.Entries.{below_all}
use Rattle.std.specs.List.{AllByRecursion}
use Rattle.std.specs.List.Sorted.{IsStrictlySortedBy}
use Rattle.clog_base.specs.declared.cell.Cell.{Cell}
use Rattle.clog_base.specs.declared.cell.CellKey.{CellKey}
use Rattle.clog_cells.specs.Merge.{key_cmp, is_newer, found_at, AreInOrder, IsMerge}
use Rattle.clog_base.proofs.Orderings.{first_holds, second_holds, is_less}
use Rattle.clog_cells.proofs.Orders.{key_total, key_equiv}
use Rattle.clog_cells.proofs.InOrder.{nothing_in_order}
use Rattle.clog_cells.proofs.Merging.{rises, found_as, kept, grown, continues, none_yet}

abbrev Pairs : Type 0
Pairs = List (CellKey × Cell)

-- ---- the rows of a finite map are in order

below_listed : (key : CellKey) (rows : Pairs) → T (below_all key_cmp key rows)
    → AllByRecursion (λ other. key_cmp key other ≡ Less) (keys_of rows)
below_listed key [] h = tt
below_listed key (row ∷ rows) h =
    let test = is_lt (key_cmp key row.0) in
    let rest = below_all key_cmp key rows in (
      is_less (key_cmp key row.0) (first_holds test rest h),
      below_listed key rows (second_holds test rest h),
    )

in_order : (rows : Pairs) → T (is_sorted key_cmp rows) → AreInOrder rows
unfolding IsStrictlySortedBy
in_order [] h = tt
in_order (row ∷ rows) h =
    let test = below_all key_cmp row.0 rows in
    let rest = is_sorted key_cmp rows in
    (below_listed row.0 rows (first_holds test rest h), in_order rows (second_holds test rest h))

-- ---- one pair more

-- the rows with a cell put at its key
abbrev put_in : Pairs → CellKey → Cell → Pairs
put_in rows key cell = entries (insert (from_sorted {R = key_cmp} rows) key cell)

found_in : (rows : Pairs) (key : CellKey) (cell : Cell) → AreInOrder rows → (q : CellKey)
    → found_at (put_in rows key cell) q
    ≡ cond (is_at (key_cmp key) q) (Some cell) (found_at rows q)
found_in rows key cell ordered q =
    let old : FinMap key_cmp Cell = from_sorted rows in
    sym (found_as (put_in rows key cell) q)
    ∙ sym (get-entries (insert old key cell) q)
    ∙ get-insert key_total old key cell q
    ∙ ap (λ (b : Bool). cond b (Some cell) (get old q)) (key_equiv.symm q key)
    ∙ ap (cond (eq_by_cmp key_cmp key q) (Some cell))
    (get-from_sorted key_cmp rows q (rises rows ordered) ∙ found_as rows q)

put_over : (rows : Pairs) (key : CellKey) (cell : Cell) → AreInOrder rows
    → IfSome (found_at rows key) (λ f. is_newer cell f ≡ true)
    → (new : Pairs) × IsMerge (rows ++ (key, cell) ∷ []) new
put_over rows key cell ordered newer = (
  put_in rows key cell,
  grown rows (put_in rows key cell) key cell ordered
      (in_order (put_in rows key cell)
      (entries_sorted (insert (from_sorted {R = key_cmp} rows) key cell)))
      newer (found_in rows key cell ordered),
)

by_age : (rows : Pairs) (key : CellKey) (cell f : Cell) → AreInOrder rows
    → found_at rows key ≡ Some f → (newer : Bool) → is_newer cell f ≡ newer
    → (new : Pairs) × IsMerge (rows ++ (key, cell) ∷ []) new
by_age rows key cell f ordered found true e =
    put_over rows key cell ordered
    (subst (λ (o : Option Cell). IfSome o (λ x. is_newer cell x ≡ true)) (sym found) e)
by_age rows key cell f ordered found false e = (rows, kept rows key cell f ordered found e)

by_found : (rows : Pairs) (key : CellKey) (cell : Cell) → AreInOrder rows
    → (o : Option Cell) → found_at rows key ≡ o
    → (new : Pairs) × IsMerge (rows ++ (key, cell) ∷ []) new
by_found rows key cell ordered None found =
    put_over rows key cell ordered
    (subst (λ (o : Option Cell). IfSome o (λ x. is_newer cell x ≡ true)) (sym found) tt)
by_found rows key cell ordered (Some f) found =
    by_age rows key cell f ordered found (is_newer cell f) refl

-- ---- all pairs

merge_on : (old pairs : Pairs) → AreInOrder old → (rows : Pairs) × IsMerge (old ++ pairs) rows
merge_on old [] ordered = (old, none_yet old ordered)
merge_on old (p ∷ ps) ordered =
    let next = by_found old p.0 p.1 ordered (found_at old p.0) refl in
    let all = merge_on next.0 ps next.1.ordered in (
      all.0,
      subst (λ (l : Pairs). IsMerge l all.0) (append_assoc old (p ∷ []) ps)
          (continues (old ++ p ∷ []) next.0 ps all.0 next.1 all.1),
    )

pub merge_of : (pairs : Pairs) → (rows : Pairs) × IsMerge pairs rows
merge_of pairs = merge_on [] pairs nothing_in_order
