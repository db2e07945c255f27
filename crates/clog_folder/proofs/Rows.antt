-- The names of a listing that have a place, by their places.
use Rattle.std.proofs.Common.{
  ◌≡◌,
  ℕ,
  ◌+◌,
  ◌<◌,
  zero,
  List,
  [],
  ◌∷◌,
  ◌++◌,
  length,
  take,
  get_or,
  Bool,
  true,
  false,
  cond,
  Option,
  Some,
  None,
  Contains,
  refl,
  sym,
  ap,
  subst,
  ◌∙◌,
  inl,
  inr,
  arith,
}
use Rattle.std.specs.Prelude.{IfSome}
use Rattle.std.specs.declared.cmp.Ordering.{Ordering}
use Rattle.std.specs.declared.cmp.Ordering.TheVariants.{Less}
use Rattle.std.specs.List.{AllByRecursion}
use Rattle.std.specs.List.Sorted.{IsStrictlySortedBy}
use Rattle.std.specs.Map.{keys_of, lookup}
use Rattle.std.specs.BTreeMap.{is_at}
use Rattle.std.specs.Ordering.{eq_by_cmp, is_eq, nat_cmp}
use Rattle.std.specs.Cmp.{IsTotalOrder, IsEquivalence, eq_by_cmp_equiv}
use Rattle.std.proofs.lemmas.Cmp.{then_total, on_total, nat_cmp_total}
use Rattle.std.proofs.lemmas.Bool.{true≢false}
use Rattle.std.proofs.lemmas.List.{take_more}
use Rattle.std.proofs.lemmas.List.Elements.{
  Contains-append_cases,
  Contains-append_left,
  Contains-append_right,
  Contains-push,
  Contains-push_cases,
}
use Rattle.std.proofs.lemmas.Map.Keys.{IsDistinct-from_sorted, sorted_head, sorted_tail}
use Rattle.std.proofs.lemmas.Map.Lookups.{CmpEqualImpliesEq, exact_pairs, exact_unsigned}
use Rattle.std.proofs.lemmas.Map.Views.{Contains-from_lookup, lookup-from_Contains, tells_apart}
use Rattle.clog_base.specs.declared.cell.Table.{Table}
use Rattle.clog_base.proofs.Members.{first_or_further}
use Rattle.clog_base.proofs.NameLaws.{one_segment, one_table}
use Rattle.clog_disk.specs.Files.{Files, IsThere}
use Rattle.clog_crash.specs.Folder.{IsHeld, IsNameOf, Place, place_cmp}
use Rattle.clog_folder.specs.Listing.{AreRows, IsSegmentAt, SegmentPlace, segment_cmp}

-- the names up to an index, and the one there
pub taken : (names : List (List ℕ)) (i : ℕ) (name : List ℕ) → i < length names
    → name ≡ get_or names i name → take i names ++ name ∷ [] ≡ take (i + 1) names
taken names i name inside is =
    ap (λ (x : List ℕ). take i names ++ x ∷ []) is ∙ sym (take_more names i name inside)

-- How names are those of places: each of one, and each place has one name. Places are ordered.
pub record ArePlaced {K : Type 0} (cmp : K → K → Ordering) (IsNamed : K → List ℕ → Type 0)
    : Type 0 where
  pub total : IsTotalOrder cmp
  pub exact : CmpEqualImpliesEq cmp
  pub one_place : (name : List ℕ) (p q : K) → IsNamed p name → IsNamed q name → p ≡ q
  pub one_name : (p : K) (a b : List ℕ) → IsNamed p a → IsNamed p b → a ≡ b

module _ {K : Type 0} (cmp : K → K → Ordering) (IsNamed : K → List ℕ → Type 0)
    (laws : ArePlaced cmp IsNamed) where
  abbrev Listed : (List ℕ → Type 0) → List (K × List ℕ) → Type 0
  Listed P rows = AreRows cmp IsNamed P rows

  equiv : IsEquivalence (eq_by_cmp cmp)
  equiv = eq_by_cmp_equiv laws.total

  same_place : (a b : K) → eq_by_cmp cmp a b ≡ true → a ≡ b
  same_place = tells_apart laws.exact

  row_found : (rows : List (K × List ℕ)) (q : K) (v : List ℕ)
      → IsStrictlySortedBy cmp (keys_of rows) → Contains rows (q, v)
      → lookup (is_at (cmp q)) rows ≡ Some v
  row_found rows q v sorted there =
      lookup-from_Contains equiv q v rows
      (IsDistinct-from_sorted cmp (keys_of rows) sorted) there

  pub row_there : (rows : List (K × List ℕ)) (q : K) (v : List ℕ)
      → lookup (is_at (cmp q)) rows ≡ Some v → Contains rows (q, v)
  row_there rows q v found = Contains-from_lookup same_place q v rows found

  abbrev Updated : List (K × List ℕ) → List (K × List ℕ) → K → List ℕ → Type 0
  Updated rows new k v =
      (q : K) → lookup (is_at (cmp q)) new
      ≡ cond (is_at (cmp k) q) (Some v) (lookup (is_at (cmp q)) rows)

  each_at : (front : List (List ℕ)) (last : List ℕ) (k : K) (rows : List (K × List ℕ))
      → IsNamed k last → Listed (Contains front) rows
      → (q : K) (name : List ℕ) (tie : Bool) → eq_by_cmp cmp k q ≡ tie
      → cond tie (Some last) (lookup (is_at (cmp q)) rows) ≡ Some name
      → Contains (front ++ last ∷ []) name × IsNamed q name
  each_at front last k rows is so_far q name true tied e =
      let same : last ≡ name = cc in (
        subst (Contains (front ++ last ∷ [])) same (Contains-push front last),
        subst (IsNamed q) same (subst (λ (p : K). IsNamed p last) (same_place k q tied) is),
      )
  each_at front last k rows is so_far q name false apart e =
      let old = so_far.each q name (row_there rows q name e) in
      (Contains-append_left front (last ∷ []) name old.0, old.1)

  every_at : (front : List (List ℕ)) (last : List ℕ) (k : K) (rows : List (K × List ℕ))
      → IsNamed k last → Listed (Contains front) rows
      → (q : K) (name : List ℕ) → Contains (front ++ last ∷ []) name → IsNamed q name
      → (tie : Bool) → eq_by_cmp cmp k q ≡ tie
      → cond tie (Some last) (lookup (is_at (cmp q)) rows) ≡ Some name
  every_at front last k rows is so_far q name there named true tied =
      ap Some (laws.one_name q last name
      (subst (λ (p : K). IsNamed p last) (same_place k q tied) is) named)
  every_at front last k rows is so_far q name there named false apart =
      elim (Contains-push_cases front last name there) [
        | inl old ↦ row_found rows q name so_far.ordered (so_far.every q name old named)
        | inr e ↦
            let same : k ≡ q = laws.one_place last k q is
            (subst (IsNamed q) (sym e) named) in
            absurd (true≢false (sym (equiv.refl k)
            ∙ ap (λ (p : K). eq_by_cmp cmp k p) same ∙ apart))
      ]

  -- one name more, which has a place
  pub row_more : (front : List (List ℕ)) (last : List ℕ) (k : K)
      (rows new : List (K × List ℕ)) → IsNamed k last → Updated rows new k last
      → IsStrictlySortedBy cmp (keys_of new) → Listed (Contains front) rows
      → Listed (Contains (front ++ last ∷ [])) new
  row_more front last k rows new is updated sorted so_far = record {
    ordered = sorted;
    each = λ q name there. each_at front last k rows is so_far q name (eq_by_cmp cmp k q)
        refl (sym (updated q) ∙ row_found new q name sorted there);
    every = λ q name there named. row_there new q name (updated q
        ∙ every_at front last k rows is so_far q name there named (eq_by_cmp cmp k q) refl);
  }

  -- one name more, which has none
  pub row_same : (front : List (List ℕ)) (last : List ℕ) (rows : List (K × List ℕ))
      → ((q : K) → ¬ IsNamed q last) → Listed (Contains front) rows
      → Listed (Contains (front ++ last ∷ [])) rows
  row_same front last rows is_none so_far = record {
    ordered = so_far.ordered;
    each = λ q name there. let old = so_far.each q name there in
        (Contains-append_left front (last ∷ []) name old.0, old.1);
    every = λ q name there named. elim (Contains-push_cases front last name there) [
      | inl old ↦ so_far.every q name old named
      | inr e ↦ absurd (is_none q (subst (IsNamed q) (sym e) named))
    ];
  }

  -- ---- the order of rows

  behind_less : (k : K) (rows : List (K × List ℕ))
      → AllByRecursion (λ y. cmp k y ≡ Less) (keys_of rows)
      → (place : K) (name : List ℕ) → Contains rows (place, name) → cmp k place ≡ Less
  behind_less k [] all place name there = absurd (omega (arith, there.1))
  behind_less k (row ∷ rows) all place name there =
      elim (first_or_further row rows (place, name) there) [
        | inl same ↦ subst (λ (p : K). cmp k p ≡ Less)
            (ap (λ (r : K × List ℕ). r.0) same) all.0
        | inr behind ↦ behind_less k rows all.1 place name behind
      ]

  sorted_behind : (front : List (K × List ℕ)) (row : K × List ℕ) (rest : List (K × List ℕ))
      → IsStrictlySortedBy cmp (keys_of (front ++ row ∷ rest))
      → AllByRecursion (λ y. cmp row.0 y ≡ Less) (keys_of rest)
  sorted_behind [] row rest sorted = sorted_head cmp row.0 (keys_of rest) sorted
  sorted_behind (first ∷ front) row rest sorted =
      sorted_behind front row rest
      (sorted_tail cmp first.0 (keys_of (front ++ row ∷ rest)) sorted)

  not_below_itself : (place : K) → cmp place place ≡ Less → ⊥
  not_below_itself place less = true≢false (sym (equiv.refl place) ∙ ap is_eq less)

  -- what is below a place stands before it
  pub stands_before : (front : List (K × List ℕ)) (row : K × List ℕ) (rest : List (K × List ℕ))
      → IsStrictlySortedBy cmp (keys_of (front ++ row ∷ rest))
      → (place : K) (name : List ℕ) → Contains (front ++ row ∷ rest) (place, name)
      → cmp place row.0 ≡ Less → Contains front (place, name)
  stands_before front row rest sorted place name there less =
      elim (Contains-append_cases front (row ∷ rest) (place, name) there) [
        | inl before ↦ before
        | inr behind ↦ elim (first_or_further row rest (place, name) behind) [
          | inl same ↦ absurd (not_below_itself place
              (subst (λ (p : K). cmp place p ≡ Less)
              (ap (λ (r : K × List ℕ). r.0) same) less))
          | inr after ↦ absurd (not_below_itself place
              (laws.total.trans place row.0 place less
              (behind_less row.0 rest (sorted_behind front row rest sorted) place name after)))
        ]
      ]

  -- what comes behind the first is above it
  pub is_above_first : (row : K × List ℕ) (rest : List (K × List ℕ))
      → IsStrictlySortedBy cmp (keys_of (row ∷ rest)) → (other : K × List ℕ)
      → Contains rest other → cmp row.0 other.0 ≡ Less
  is_above_first row rest sorted other there =
      behind_less row.0 rest (sorted_behind [] row rest sorted) other.0 other.1 there

  -- ---- the row that is taken next

  pub row_of : (rows front rest : List (K × List ℕ)) (row : K × List ℕ)
      → rows ≡ front ++ row ∷ rest → Contains rows row
  row_of rows front rest row parts =
      subst (λ (r : List (K × List ℕ)). Contains r row) (sym parts)
      (Contains-append_right front (row ∷ rest) row (zero, omega arith, refl))

  is_there : (files : Option Files) (rows front rest : List (K × List ℕ)) (place : K)
      (name : List ℕ) → IfSome files (λ held. Listed (IsHeld held) rows)
      → rows ≡ front ++ (place, name) ∷ rest → IsThere files name
  is_there None rows front rest place name places parts = tt
  is_there (Some held) rows front rest place name places parts =
      (places.each place name (row_of rows front rest (place, name) parts)).0

  -- the disk as it stands now has the name that is taken next
  pub is_there_now : (files now : Option Files) (rows front left rest : List (K × List ℕ))
      (place : K) (name : List ℕ) → IfSome files (λ held. Listed (IsHeld held) rows)
      → now ≡ files → rows ≡ front ++ left → left ≡ (place, name) ∷ rest → IsThere now name
  is_there_now files now rows front left rest place name places same parts taken =
      subst (λ (f : Option Files). IsThere f name) (sym same)
      (is_there files rows front rest place name places
      (parts ∙ ap (λ (l : List (K × List ℕ)). front ++ l) taken))

-- ---- places of table files, and of segments

same_table_place : (a b : Place) → a.0.0 ≡ b.0.0 → a.1 ≡ b.1 → a ≡ b
same_table_place a b t s = λ i. (record { 0 = t i }, s i)

exact_numbers : CmpEqualImpliesEq (λ (a b : Table). nat_cmp a.0 b.0)
exact_numbers a b e = λ i. record { 0 = exact_unsigned a.0 b.0 e i }

exact_tables : CmpEqualImpliesEq place_cmp
exact_tables =
    exact_pairs (λ (a b : Table). nat_cmp a.0 b.0) nat_cmp exact_numbers exact_unsigned

pub table_places : ArePlaced place_cmp IsNameOf
table_places = record {
  total = then_total (on_total (λ (p : Place). p.0.0) nat_cmp_total)
      (on_total (λ (p : Place). p.1) nat_cmp_total);
  exact = exact_tables;
  one_place = λ name p q is is'.
      let both = one_table name p.0.0 p.1 q.0.0 q.1 is is' in
      same_table_place p q both.0 both.1;
  one_name = λ p a b is is'. is.form ∙ sym is'.form;
}

same_segment_place : (a b : SegmentPlace) → a.0 ≡ b.0 → a.1 ≡ b.1 → a ≡ b
same_segment_place a b t s = λ i. (t i, s i)

exact_segments : CmpEqualImpliesEq segment_cmp
exact_segments = exact_pairs nat_cmp nat_cmp exact_unsigned exact_unsigned

pub segment_places : ArePlaced segment_cmp IsSegmentAt
segment_places = record {
  total = then_total (on_total (λ (p : SegmentPlace). p.0) nat_cmp_total)
      (on_total (λ (p : SegmentPlace). p.1) nat_cmp_total);
  exact = exact_segments;
  one_place = λ name p q is is'.
      let both = one_segment name p.1 p.0 q.1 q.0 is is' in
      same_segment_place p q both.1 both.0;
  one_name = λ p a b is is'. is.form ∙ sym is'.form;
}
