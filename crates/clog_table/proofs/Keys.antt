-- Keys in order.
use Rattle.std.proofs.Common.{
  ◌≡◌,
  List,
  [],
  ◌∷◌,
  ◌++◌,
  Bool,
  true,
  false,
  cond,
  Some,
  subst,
  refl,
  sym,
  ap,
  ◌∙◌,
}
use Rattle.std.specs.Prelude.{All}
use Rattle.std.specs.List.{AllByRecursion}
use Rattle.std.specs.List.Sorted.{IsStrictlySortedBy}
use Rattle.std.specs.Map.{keys_of}
use Rattle.std.specs.Ordering.{is_lt, eq_by_cmp, ordering_reverse}
use Rattle.std.specs.declared.cmp.Ordering.{Ordering}
use Rattle.std.specs.declared.cmp.Ordering.TheVariants.{Less, Equal, Greater}
use Rattle.std.proofs.lemmas.List.Elements.{recursion_from_All}
use Rattle.clog_base.specs.declared.cell.Cell.{Cell}
use Rattle.clog_base.specs.declared.cell.CellKey.{CellKey}
use Rattle.clog_cells.specs.Merge.{key_cmp, found_at, AreInOrder}
use Rattle.clog_cells.proofs.Orders.{key_total, one_key}
use Rattle.clog_table.specs.Cells.{IsAbove}

abbrev pub Pairs : Type 0
Pairs = List (CellKey × Cell)

below_by : (last key other : CellKey) (r : Ordering) → key_cmp other last ≡ r
    → is_lt (key_cmp last other) ≡ false → key_cmp last key ≡ Less → key_cmp other key ≡ Less
below_by last key other Less e h below = key_total.trans other last key e below
below_by last key other Equal e h below = key_total.congr other last key e ∙ below
below_by last key other Greater e h below =
    let turned : key_cmp last other ≡ Less =
    key_total.antisymm last other ∙ ap ordering_reverse e in
    absurd (let clash : is_lt Less ≡ false = sym (ap is_lt turned) ∙ h in cc)

below_all_by : (last key : CellKey) (keys : List CellKey) → key_cmp last key ≡ Less
    → AllByRecursion (λ other. is_lt (key_cmp last other) ≡ false) keys
    → AllByRecursion (λ other. key_cmp other key ≡ Less) keys
below_all_by last key [] below h = tt
below_all_by last key (other ∷ keys) below h = (
  below_by last key other (key_cmp other last) refl h.0 below,
  below_all_by last key keys below
      h.1,
)

-- what is above the greatest is above all
pub above_greatest : (rows : Pairs) (last key : CellKey)
    → All (λ other. is_lt (key_cmp last other) ≡ false) (keys_of rows) → key_cmp last key ≡ Less
    → IsAbove rows key
above_greatest rows last key greatest below =
    below_all_by last key (keys_of rows) below
    (recursion_from_All (λ other. is_lt (key_cmp last other) ≡ false) (keys_of rows) greatest)

push_below : (first key : CellKey) (cell : Cell) (rows : Pairs)
    → AllByRecursion (λ other. key_cmp first other ≡ Less) (keys_of rows) → key_cmp first key ≡ Less
    → AllByRecursion (λ other. key_cmp first other ≡ Less) (keys_of (rows ++ (key, cell) ∷ []))
push_below first key cell [] h below = (below, tt)
push_below first key cell (row ∷ rows) h below = (h.0, push_below first key cell rows h.1 below)

-- a pair whose key is above all goes on the order
pub order_goes_on : (rows : Pairs) (key : CellKey) (cell : Cell) → AreInOrder rows
    → IsAbove rows key
    → AreInOrder (rows ++ (key, cell) ∷ [])
unfolding IsStrictlySortedBy
order_goes_on [] key cell h above = (tt, tt)
order_goes_on (row ∷ rows) key cell h above =
    (push_below row.0 key cell rows h.0 above.0, order_goes_on rows key cell h.1 above.1)

last_below : (first key : CellKey) (cell : Cell) (rows : Pairs)
    → AllByRecursion (λ other. key_cmp first other ≡ Less) (keys_of (rows ++ (key, cell) ∷ []))
    → key_cmp first key ≡ Less
last_below first key cell [] h = h.0
last_below first key cell (row ∷ rows) h = last_below first key cell rows h.1

-- in order, the last key is above all before it
pub last_is_above : (rows : Pairs) (key : CellKey) (cell : Cell)
    → AreInOrder (rows ++ (key, cell) ∷ []) → IsAbove rows key
unfolding IsStrictlySortedBy
last_is_above [] key cell h = tt
last_is_above (row ∷ rows) key cell h =
    (last_below row.0 key cell rows h.0, last_is_above rows key cell h.1)

found_below : (last key : CellKey) (v : Cell) (row : CellKey × Cell) (rows : Pairs) (b : Bool)
    → eq_by_cmp key_cmp last row.0 ≡ b → cond b (Some row.1) (found_at rows last) ≡ Some v
    → key_cmp row.0 key ≡ Less → (found_at rows last ≡ Some v → key_cmp last key ≡ Less)
    → key_cmp last key ≡ Less
found_below last key v row rows true tie e below rest =
    subst (λ (k : CellKey). key_cmp k key ≡ Less) (sym (one_key last row.0 tie)) below
found_below last key v row rows false tie e below rest = rest e

-- a key of the rows is below what is above all
pub above_found : (rows : Pairs) (last key : CellKey) (v : Cell) → IsAbove rows key
    → found_at rows last ≡ Some v → key_cmp last key ≡ Less
above_found [] last key v above e = absurd cc
above_found (row ∷ rows) last key v above e =
    found_below last key v row rows (eq_by_cmp key_cmp last row.0) refl e above.0
    (above_found rows last key v above.1)

pub is_lt-Less : (r : Ordering) → is_lt r ≡ true → r ≡ Less
is_lt-Less Less e = refl
is_lt-Less Equal e = absurd cc
is_lt-Less Greater e = absurd cc
