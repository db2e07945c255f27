-- The part of a merge on a table is the merge of the part.
use Rattle.std.proofs.Common.{◌≡◌, List, [], ◌∷◌, Bool, true, false, cond, Option, Some, None}
use Rattle.std.proofs.Common.{refl, sym, ap, subst, ◌∙◌, inl, inr, arith, ◌↔◌, eq-eqb, eqb-true}
use Rattle.std.specs.Prelude.{Contains}
use Rattle.std.specs.List.{filter}
use Rattle.std.specs.List.Sorted.{IsStrictlySortedBy}
use Rattle.std.specs.Map.{keys_of}
use Rattle.std.specs.BTreeMap.{is_at}
use Rattle.std.proofs.lemmas.Bool.{true≢false}
use Rattle.std.proofs.lemmas.List.Elements.{Contains-append_left, Contains-append_right}
use Rattle.std.proofs.lemmas.List.Elements.{Contains-append_cases, Contains-push_cases}
use Rattle.std.proofs.lemmas.List.Kept.{IsStrictlySortedBy-filter}
use Rattle.std.proofs.lemmas.Map.Entries.{lookup-filter-keys}
use Rattle.clog_base.specs.declared.cell.Cell.{Cell}
use Rattle.clog_base.specs.declared.cell.CellKey.{CellKey}
use Rattle.clog_base.specs.declared.cell.Table.{Table}
use Rattle.clog_cells.specs.Merge.{key_cmp, found_at, IsNewestAmong, IsMerge, IsMergeOf}
use Rattle.clog_cells.specs.Merge.{is_of_table, part_on}
use Rattle.clog_cells.proofs.Orders.{one_key}
use Rattle.clog_cells.proofs.Merging.{of_same}

abbrev Pairs : Type 0
Pairs = List (CellKey × Cell)

-- of the cells that have P, those of a table
abbrev pub OnTable : (CellKey × Cell → Type 0) → Table → CellKey × Cell → Type 0
OnTable P table pair = P pair × (is_of_table table pair.0 ≡ true)

newest_part : (P : CellKey × Cell → Type 0) (table : Table) (key : CellKey) (found : Option Cell)
    (of_it : Bool) → is_of_table table key ≡ of_it → IsNewestAmong P key found
    → IsNewestAmong (OnTable P table) key (cond of_it found None)
newest_part P table key None true same p = λ cell h. p cell h.0
newest_part P table key (Some c) true same p = record {
  listed = (p.listed, same);
  greatest = λ other h. p.greatest other h.0;
}
newest_part P table key found false other p = λ cell h. true≢false (sym h.1 ∙ other)

keys_by : (row : CellKey × Cell) (part : Pairs) (keys : List CellKey) (b : Bool)
    → keys_of part ≡ keys → keys_of (cond b (row ∷ part) part) ≡ cond b (row.0 ∷ keys) keys
keys_by row part keys true same = ap (λ (ks : List CellKey). row.0 ∷ ks) same
keys_by row part keys false same = same

keys_of_part : (table : Table) (rows : Pairs)
    → keys_of (part_on table rows) ≡ filter (is_of_table table) (keys_of rows)
keys_of_part table [] = refl
keys_of_part table (row ∷ rows) =
    keys_by row (part_on table rows) (filter (is_of_table table) (keys_of rows))
    (is_of_table table row.0) (keys_of_part table rows)

pub part_of_all : (P : CellKey × Cell → Type 0) (table : Table) (rows : Pairs) → IsMergeOf P rows
    → IsMergeOf (OnTable P table) (part_on table rows)
part_of_all P table rows merge = record {
  ordered = subst (IsStrictlySortedBy key_cmp) (sym (keys_of_part table rows))
      (IsStrictlySortedBy-filter key_cmp (is_of_table table) (keys_of rows) merge.ordered);
  newest = λ key.
      let there = lookup-filter-keys (is_at (key_cmp key)) (is_of_table table)
      (is_of_table table key)
      (λ other e. ap (is_of_table table) (sym (one_key key other e))) rows in
      subst (IsNewestAmong (OnTable P table) key) (sym there)
      (newest_part P table key (found_at rows key) (is_of_table table key) refl (merge.newest key));
}

-- ---- of a list
module _ (test : CellKey × Cell → Bool) where
  behind : (b : Bool) (x y : CellKey × Cell) (xs : Pairs) → Contains xs y
      → Contains (cond b (x ∷ xs) xs) y
  behind true x y xs h = Contains-append_right (x ∷ []) xs y h
  behind false x y xs h = h

  pub kept_where : (pairs : Pairs) (y : CellKey × Cell) → Contains pairs y → test y ≡ true
      → Contains (filter test pairs) y
  kept_where [] y h passes = absurd (omega (arith, h.1))
  kept_where (x ∷ xs) y h passes = elim (Contains-append_cases (x ∷ []) xs y h) [
    | inl first ↦ elim (Contains-push_cases [] x y first) [
      | inl none ↦ absurd (omega (arith, none.1))
      | inr same ↦
          subst (λ (b : Bool). Contains (cond b (x ∷ filter test xs) (filter test xs)) y)
          (sym (ap test same ∙ passes))
          (Contains-append_left (x ∷ []) (filter test xs) y first)
    ]
    | inr later ↦ behind (test x) x y (filter test xs) (kept_where xs y later passes)
  ]

  first_kept : (x y : CellKey × Cell) (xs : Pairs) (b : Bool) → test x ≡ b
      → (Contains (filter test xs) y → Contains xs y × (test y ≡ true))
      → Contains (cond b (x ∷ filter test xs) (filter test xs)) y
      → Contains (x ∷ xs) y × (test y ≡ true)
  first_kept x y xs true passes rest h =
      elim (Contains-append_cases (x ∷ []) (filter test xs) y h) [
        | inl first ↦ elim (Contains-push_cases [] x y first) [
          | inl none ↦ absurd (omega (arith, none.1))
          | inr same ↦ (
            Contains-append_left (x ∷ []) xs y first,
            sym (ap test same) ∙ passes,
          )
        ]
        | inr later ↦ (Contains-append_right (x ∷ []) xs y (rest later).0, (rest later).1)
      ]
  first_kept x y xs false fails rest h =
      (Contains-append_right (x ∷ []) xs y (rest h).0, (rest h).1)

  pub listed_where : (pairs : Pairs) (y : CellKey × Cell) → Contains (filter test pairs) y
      → Contains pairs y × (test y ≡ true)
  listed_where [] y h = absurd (omega (arith, h.1))
  listed_where (x ∷ xs) y h = first_kept x y xs (test x) refl (listed_where xs y) h

pub part_of : (table : Table) (pairs rows : Pairs) → IsMerge pairs rows
    → IsMerge (part_on table pairs) (part_on table rows)
part_of table pairs rows merge =
    of_same (OnTable (Contains pairs) table) (Contains (part_on table pairs)) (part_on table rows)
    (λ pair. (
      (λ h. kept_where (λ p. is_of_table table p.0) pairs pair h.0 h.1),
      (λ h. listed_where (λ p. is_of_table table p.0) pairs pair h),
    ))
    (part_of_all (Contains pairs) table rows merge)

-- the members of a part are those of its table
pub members_of_part : (table : Table) (pairs : Pairs) (pair : CellKey × Cell)
    → Contains (part_on table pairs) pair ↔ (Contains pairs pair × (pair.0.table ≡ table))
members_of_part table pairs pair = (
  (λ h.
      let there = listed_where (λ p. is_of_table table p.0) pairs pair h in
      (there.0, ap (λ n. record { 0 = n }) (eqb-true pair.0.table.0 table.0 there.1))),
  (λ h.
      kept_where (λ p. is_of_table table p.0) pairs pair h.0
      (eq-eqb pair.0.table.0 table.0 (ap (λ (t : Table). t.0) h.1))),
)
