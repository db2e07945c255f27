-- Cells of one table among those of an entry.
use Rattle.std.proofs.Common.{
  ◌≡◌,
  ◌++◌,
  ◌∷◌,
  [],
  List,
  ℕ,
  Bool,
  true,
  false,
  cond,
  map,
  refl,
  sym,
  ap,
  ◌∙◌,
  subst,
  eqb-true,
  eq-eqb,
}
use Rattle.std.proofs.lemmas.List.Elements.{filter-append}
use Rattle.std.proofs.lemmas.Bool.{true≢false}
use Rattle.std.proofs.lemmas.List.{map-append}
use Rattle.clog_base.specs.declared.cell.Cell.{Cell}
use Rattle.clog_base.specs.declared.cell.CellKey.{CellKey}
use Rattle.clog_base.specs.declared.cell.Table.{Table}
use Rattle.clog_cells.specs.Batches.{Adds}
use Rattle.clog_cells.specs.Merge.{is_of_table, part_on}
use Rattle.clog_cells.specs.declared.batches.CellBatches.{CellBatches}
use Rattle.clog_cells.proofs.Batched.{adds_both, adds_none}
use Rattle.clog_mutation.specs.declared.mutation.Update.{Update}
use Rattle.clog_mutation.specs.Payload.{pair_of}

abbrev Pairs : Type 0
Pairs = List (CellKey × Cell)

none_of : (table : Table) (pair : CellKey × Cell) (b : Bool) → (pair.0.table.0 ≡ table.0 → ⊥)
    → is_of_table table pair.0 ≡ b → cond b (pair ∷ []) [] ≡ []
none_of table pair true apart is = absurd (apart (eqb-true pair.0.table.0 table.0 is))
none_of table pair false apart is = refl

one_of : (table : Table) (pair : CellKey × Cell) (b : Bool) → pair.0.table.0 ≡ table.0
    → is_of_table table pair.0 ≡ b → pair ∷ [] ≡ cond b (pair ∷ []) []
one_of table pair true same is = refl
one_of table pair false same is =
    absurd (true≢false (sym (eq-eqb pair.0.table.0 table.0 same) ∙ is))

-- a cell of another table adds nothing
pub nothing_more : (table : Table) (cells : CellBatches) (pair : CellKey × Cell)
    → (pair.0.table.0 ≡ table.0 → ⊥) → Adds (part_on table (pair ∷ [])) cells cells
nothing_more table cells pair apart = subst (λ (l : Pairs). Adds l cells cells)
    (sym (none_of table pair (is_of_table table pair.0) apart refl)) (adds_none cells)

-- a cell of the table is put
pub one_more : (table : Table) (before now : CellBatches) (pair : CellKey × Cell)
    → pair.0.table.0 ≡ table.0 → Adds (pair ∷ []) before now
    → Adds (part_on table (pair ∷ [])) before now
one_more table before now pair same = subst (λ (l : Pairs). Adds l before now)
    (one_of table pair (is_of_table table pair.0) same refl)

-- one update more is put
pub one_update : (table : Table) (key : List ℕ) (before middle now : CellBatches)
    (put : List Update) (update : Update)
    → Adds (part_on table (map (pair_of key) put)) before middle
    → Adds (part_on table (pair_of key update ∷ [])) middle now
    → Adds (part_on table (map (pair_of key) (put ++ update ∷ []))) before now
one_update table key before middle now put update so_far step =
    let front = part_on table (map (pair_of key) put) in
    let last = part_on table (pair_of key update ∷ []) in
    let both : front ++ last ≡ part_on table (map (pair_of key) (put ++ update ∷ [])) =
    sym (filter-append (λ p. is_of_table table p.0) (map (pair_of key) put)
    (pair_of key update ∷ []))
    ∙ ap (part_on table) (sym (map-append (pair_of key) put (update ∷ []))) in
    subst (λ (l : Pairs). Adds l before now) both
    (adds_both before middle now front last so_far step)
