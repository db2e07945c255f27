-- What is above the last cell is above all of them.
use Rattle.std.proofs.Common.{◌≡◌, [], ◌∷◌, ◌++◌, Option, Some, None, sym, ap, subst, ◌∙◌}
use Rattle.std.specs.Ordering.{ordering_then}
use Rattle.std.specs.declared.cmp.Ordering.{Ordering}
use Rattle.std.specs.declared.cmp.Ordering.TheVariants.{Less}
use Rattle.std.proofs.lemmas.Cmp.{tied_itself, nat_cmp_total}
use Rattle.clog_base.specs.declared.cell.Cell.{Cell}
use Rattle.clog_base.specs.declared.cell.CellKey.{CellKey}
use Rattle.clog_base.specs.declared.cell.Table.{Table}
use Rattle.clog_cells.specs.Merge.{key_cmp, AreInOrder}
use Rattle.clog_cells.proofs.Orders.{key_total}
use Rattle.clog_table.specs.Reading.{Fields}
use Rattle.clog_table.specs.RawFields.{key_of, cell_of, pair_of}
use Rattle.clog_table.specs.Cells.{IsAbove}
use Rattle.clog_table.specs.LastCell.{fields_cmp, StandsAbove, EndsWith}
use Rattle.clog_table.proofs.Keys.{Pairs, order_goes_on, last_is_above}

-- in one table the fields decide
in_table : (table : Table) (a b : Fields)
    → key_cmp (key_of table a) (key_of table b) ≡ fields_cmp a b
in_table table a b =
    ap (λ (o : Ordering). ordering_then o (fields_cmp a b)) (tied_itself nat_cmp_total table.0)

all_below : (before : Pairs) (last key : CellKey) (cell : Cell) → IsAbove before last
    → key_cmp last key ≡ Less → IsAbove (before ++ (last, cell) ∷ []) key
all_below [] last key cell above below = (below, tt)
all_below (row ∷ rows) last key cell above below = (
  key_total.trans row.0 last key above.0 below,
  all_below rows last key cell above.1 below,
)

last_below : (before : Pairs) (last key : CellKey) (cell : Cell)
    → IsAbove (before ++ (last, cell) ∷ []) key → key_cmp last key ≡ Less
last_below [] last key cell above = above.0
last_below (row ∷ rows) last key cell above = last_below rows last key cell above.1

pub goes_on : (table : Table) (cells : Pairs) (last : Option Fields) (x : Fields)
    → AreInOrder cells → EndsWith table cells last → StandsAbove last x
    → AreInOrder (cells ++ pair_of table x ∷ [])
goes_on table cells None x ordered ends above =
    order_goes_on cells (key_of table x) (cell_of x) ordered
    (subst (λ (l : Pairs). IsAbove l (key_of table x)) (sym ends) tt)
goes_on table cells (Some last) x ordered ends above =
    let before = ends.0 in
    let order : AreInOrder (before ++ pair_of table last ∷ []) = subst AreInOrder ends.1 ordered in
    order_goes_on cells (key_of table x) (cell_of x) ordered
    (subst (λ (l : Pairs). IsAbove l (key_of table x)) (sym ends.1)
    (all_below before (key_of table last) (key_of table x) (cell_of last)
    (last_is_above before (key_of table last) (cell_of last) order)
    (in_table table last x ∙ above)))

pub stops : (table : Table) (cells : Pairs) (last : Option Fields) (x : Fields)
    → EndsWith table cells last → AreInOrder (cells ++ pair_of table x ∷ [])
    → StandsAbove last x
stops table cells None x ends order = tt
stops table cells (Some last) x ends order =
    let above = last_is_above cells (key_of table x) (cell_of x) order in
    sym (in_table table last x)
    ∙ last_below ends.0 (key_of table last) (key_of table x) (cell_of last)
    (subst (λ (l : Pairs). IsAbove l (key_of table x)) ends.1 above)
