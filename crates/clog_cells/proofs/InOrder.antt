-- Rows in order: a front of them is in order, and they are their own merge.
use Rattle.std.proofs.Common.{◌≡◌, ◌∙◌, List, [], ◌∷◌, ◌++◌, Result, Ok, Err, sym, ap, subst}
use Rattle.std.proofs.Common.{append_assoc}
use Rattle.std.specs.Prelude.{OnOk}
use Rattle.std.specs.List.{AllByRecursion}
use Rattle.std.specs.List.Sorted.{IsStrictlySortedBy}
use Rattle.std.specs.Map.{keys_of}
use Rattle.std.specs.declared.cmp.Ordering.TheVariants.{Less}
use Rattle.clog_base.specs.declared.cell.Cell.{Cell}
use Rattle.clog_base.specs.declared.cell.CellKey.{CellKey}
use Rattle.clog_cells.specs.Merge.{key_cmp, AreInOrder, IsMerge}
use Rattle.clog_cells.proofs.Merging.{unique, of_itself}

abbrev Pairs : Type 0
Pairs = List (CellKey × Cell)

pub nothing_in_order : AreInOrder []
unfolding IsStrictlySortedBy
nothing_in_order = tt

front_below : (first : CellKey) (rows more : Pairs)
    → AllByRecursion (λ other. key_cmp first other ≡ Less) (keys_of (rows ++ more))
    → AllByRecursion (λ other. key_cmp first other ≡ Less) (keys_of rows)
front_below first [] more h = tt
front_below first (row ∷ rows) more h = (h.0, front_below first rows more h.1)

-- a front of what is in order is in order
pub front_in_order : (rows more : Pairs) → AreInOrder (rows ++ more) → AreInOrder rows
unfolding IsStrictlySortedBy
front_in_order [] more h = tt
front_in_order (row ∷ rows) more h = (front_below row.0 rows more h.0, front_in_order rows more h.1)

-- a merge of what is in order is itself
pub merge_in_order : (rows merged : Pairs) → AreInOrder rows → IsMerge rows merged → merged ≡ rows
merge_in_order rows merged ordered h = unique rows merged rows h (of_itself rows ordered)

pub ok_in_order : {E : Type 0} (result : Result Unit E) (rows merged : Pairs) → AreInOrder rows
    → OnOk result (IsMerge rows merged) → OnOk result (merged ≡ rows)
ok_in_order (Ok done) rows merged ordered h = merge_in_order rows merged ordered h
ok_in_order (Err e) rows merged ordered h = tt

-- what was copied, and the next pair of what is in order
pub next_in_order : (copies left rest all : Pairs) (p : CellKey × Cell) → copies ++ left ≡ all
    → left ≡ p ∷ rest → AreInOrder all → AreInOrder (copies ++ p ∷ [])
next_in_order copies left rest all p whole next ordered =
    front_in_order (copies ++ p ∷ []) rest
    (subst AreInOrder (sym whole ∙ ap (λ (l : Pairs). copies ++ l) next
    ∙ sym (append_assoc copies (p ∷ []) rest)) ordered)

-- and the merge with that pair is the next front
pub next_merged : (copies left rest all merged : Pairs) (p q : CellKey × Cell)
    → copies ++ left ≡ all → left ≡ p ∷ rest → AreInOrder all → q ≡ p
    → IsMerge (copies ++ q ∷ []) merged → merged ++ rest ≡ all
next_merged copies left rest all merged p q whole next ordered same is =
    let fits : AreInOrder (copies ++ q ∷ []) =
    subst (λ (r : CellKey × Cell). AreInOrder (copies ++ r ∷ [])) (sym same)
    (next_in_order copies left rest all p whole next ordered) in
    ap (λ (l : Pairs). l ++ rest) (merge_in_order (copies ++ q ∷ []) merged fits is)
    ∙ ap (λ (r : CellKey × Cell). (copies ++ r ∷ []) ++ rest) same
    ∙ append_assoc copies (p ∷ []) rest
    ∙ ap (λ (l : Pairs). copies ++ l) (sym next) ∙ whole
