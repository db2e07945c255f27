-- Copies of lent mutations are put one behind another.
use Rattle.std.proofs.Common.{
  ◌≡◌,
  ℕ,
  ◌+◌,
  ◌<◌,
  List,
  [],
  ◌∷◌,
  ◌++◌,
  get_or,
  length,
  map,
  take,
  sym,
  ◌∙◌,
  ap,
  subst,
}
use Rattle.std.specs.List.{flat_map}
use Rattle.std.proofs.lemmas.Grind.{flat_map-append}
use Rattle.std.proofs.lemmas.List.{append-nil, map-append, take_more}
use Rattle.clog_base.specs.declared.cell.Cell.{Cell}
use Rattle.clog_base.specs.declared.cell.CellKey.{CellKey}
use Rattle.clog_cells.specs.Batches.{Adds, WerePut}
use Rattle.clog_cells.specs.declared.batches.CellBatches.{CellBatches}
use Rattle.clog_cells.proofs.Batched.{adds_both}
use Rattle.clog_mutation.specs.declared.mutation.Update.{Update}
use Rattle.clog_mutation.specs.declared.mutation.Mutation.{Mutation}
use Rattle.clog_mutation.specs.Payload.{pair_of, cells_of}

abbrev Pairs : Type 0
Pairs = List (CellKey × Cell)

taken : {A : Type 0} (xs : List A) (i : ℕ) (x : A) → i < length xs → x ≡ get_or xs i x
    → take i xs ++ x ∷ [] ≡ take (i + 1) xs
taken {A} xs i x inside is =
    sym (take_more xs i x inside ∙ ap (λ (y : A). take i xs ++ y ∷ []) (sym is))

-- one update more
pub update_next : (first put now : CellBatches) (key : List ℕ) (us : List Update) (i : ℕ)
    (u : Update) → i < length us → u ≡ get_or us i u
    → Adds (map (pair_of key) (take i us)) first put → Adds (pair_of key u ∷ []) put now
    → Adds (map (pair_of key) (take (i + 1) us)) first now
update_next first put now key us i u inside is so_far step =
    subst (λ (l : Pairs). Adds l first now)
    (sym (map-append (pair_of key) (take i us) (u ∷ []))
    ∙ ap (map (pair_of key)) (taken us i u inside is))
    (adds_both first put now (map (pair_of key) (take i us)) (pair_of key u ∷ []) so_far step)

-- one mutation more
pub mutation_next : (put now : CellBatches) (ms : List Mutation) (i : ℕ) (m : Mutation)
    (updates : List Update) → i < length ms → m ≡ get_or ms i m
    → WerePut (flat_map cells_of (take i ms)) put → updates ≡ m.updates
    → Adds (map (pair_of m.key) updates) put now
    → WerePut (flat_map cells_of (take (i + 1) ms)) now
mutation_next put now ms i m updates inside is so_far lent step =
    let front = flat_map cells_of (take i ms) in
    subst (λ (l : Pairs). WerePut l now)
    (ap (λ (us : List Update). front ++ map (pair_of m.key) us) lent
    ∙ ap (λ (l : Pairs). front ++ l) (sym (append-nil (cells_of m)))
    ∙ sym (flat_map-append cells_of (take i ms) (m ∷ []))
    ∙ ap (flat_map cells_of) (taken ms i m inside is))
    (step front so_far)
