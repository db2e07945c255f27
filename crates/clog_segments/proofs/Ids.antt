-- What the names and the table files of a folder say, one after another.
use Rattle.std.proofs.Common.{
  ◌≡◌,
  ◌⊎◌,
  ℕ,
  ◌+◌,
  ◌<◌,
  max,
  List,
  [],
  ◌∷◌,
  ◌++◌,
  length,
  take,
  get_or,
  Contains,
  refl,
  sym,
  ap,
  subst,
  ◌∙◌,
  inl,
  inr,
  arith,
}
use Rattle.std.specs.Prelude.{
  IsTrue,
  nat_lt,
  ◌↔◌,
  ◌^◌,
  MatchOption,
  Option,
  Some,
  None,
  Result,
  Ok,
  Err,
}
use Rattle.std.specs.List.{Any}
use Rattle.std.proofs.lemmas.Bool.{cases_lt, lt-ltb, ltb-true}
use Rattle.std.proofs.lemmas.List.{take_more}
use Rattle.std.proofs.lemmas.List.Elements.{
  Contains-append_left,
  Contains-push,
  Contains-push_cases,
}
use Rattle.std.proofs.Math.Nat.{le-max_left, le-max_right, max-eq_left, max-eq_right}
use Rattle.clog_spec.specs.Names.{
  IsArchiveName,
  IsNoArchiveName,
  IsNoSegmentName,
  IsSegmentName,
  IsTableName,
}
use Rattle.clog_base.specs.declared.cell.Table.{Table}
use Rattle.clog_base.proofs.Members.{nothing_there}
use Rattle.clog_base.proofs.NameLaws.{one_segment, one_table, one_archive, segment_is_no_other}
use Rattle.clog_crash.specs.Folder.{IsBase}
use Rattle.clog_folder.specs.declared.fault.OpenFault.{OpenFault}
use Rattle.clog_segments.specs.Named.{
  GivesBase,
  HasId,
  HasSequence,
  IsIdBase,
  IsLateTable,
  OneHas,
  id_limit,
  sequence_limit,
}

-- ---- one base above another

pub join : (P Q : ℕ → Type 0) (a b c : ℕ) → IsBase P a b → IsBase Q b c
    → IsBase (λ n. P n ⊎ Q n) a c
join P Q a b c first second = record {
  moment = omega (arith, first.moment, second.moment);
  above = λ n h. elim h [
    | inl p ↦ let low = first.above n p in omega (arith, low, second.moment)
    | inr q ↦ second.above n q
  ];
  one = elim second.one [
    | inl same ↦ elim first.one [
      | inl start ↦ inl (same ∙ start)
      | inr p ↦ inr (p.0, inl p.1, same ∙ p.2)
    ]
    | inr q ↦ inr (q.0, inr q.1, q.2)
  ];
}

pub same_base : (P Q : ℕ → Type 0) (a b : ℕ) → ((n : ℕ) → P n → Q n) → ((n : ℕ) → Q n → P n)
    → IsBase P a b → IsBase Q a b
same_base P Q a b forth back is = record {
  moment = is.moment;
  above = λ n q. is.above n (back n q);
  one = elim is.one [ inl same ↦ inl same | inr p ↦ inr (p.0, forth p.0 p.1, p.2) ];
}

-- there is one base
pub one_base : (P : ℕ → Type 0) (now a b : ℕ) → IsBase P now a → IsBase P now b → a ≡ b
one_base P now a b x y = elim x.one [
  | inl same ↦ elim y.one [
    | inl too ↦ omega (arith, same, too)
    | inr one ↦ let low = x.above one.0 one.1 in omega (arith, same, y.moment, low, one.2)
  ]
  | inr two ↦ elim y.one [
    | inl too ↦ let low = y.above two.0 two.1 in omega (arith, too, x.moment, low, two.2)
    | inr one ↦
        let first = x.above one.0 one.1 in
        let second = y.above two.0 two.1 in
        omega (arith, first, second, one.2, two.2)
  ]
]

pub none_above : (P : ℕ → Type 0) (a : ℕ) → ((n : ℕ) → P n → ⊥) → IsBase P a a
none_above P a none = record {
  moment = omega arith;
  above = λ n p. absurd (none n p);
  one = inl refl;
}

-- the greater of a base and one more than a number
pub above_one : (P : ℕ → Type 0) (a id : ℕ) → P id → ((n : ℕ) → P n → n ≡ id)
    → IsBase P a (max a (id + 1))
above_one P a id is one = record {
  moment = le-max_left a (id + 1);
  above = λ n p. let low = le-max_right a (id + 1) in omega (arith, one n p, low);
  one = elim (cases_lt a (id + 1)) [
    | inl high ↦ inr (id, is, max-eq_right (omega (arith, high)))
    | inr low ↦ inl (max-eq_left low)
  ];
}

-- ---- one of a list

module _ {A : Type 0} (P : A → ℕ → Type 0) where
  none_has : (n : ℕ) → OneHas P [] n → ⊥
  none_has n h = nothing_there h.0 h.1

  more_have : (xs : List A) (x : A) (n : ℕ) → OneHas P xs n ⊎ P x n → OneHas P (xs ++ x ∷ []) n
  more_have xs x n (inl h) = (h.0, Contains-append_left xs (x ∷ []) h.0 h.1, h.2)
  more_have xs x n (inr p) = (x, Contains-push xs x, p)

  have_more : (xs : List A) (x : A) (n : ℕ) → OneHas P (xs ++ x ∷ []) n → OneHas P xs n ⊎ P x n
  have_more xs x n h = elim (Contains-push_cases xs x h.0 h.1) [
    | inl there ↦ inl (h.0, there, h.2)
    | inr same ↦ inr (subst (λ (y : A). P y n) (sym same) h.2)
  ]

  pub no_base : (a : ℕ) → IsBase (OneHas P []) a a
  no_base a = none_above (OneHas P []) a none_has

  pub base_more : (xs : List A) (i : ℕ) (x : A) (a b c : ℕ) → i < length xs → x ≡ get_or xs i x
      → IsBase (OneHas P (take i xs)) a b → IsBase (P x) b c
      → IsBase (OneHas P (take (i + 1) xs)) a c
  base_more xs i x a b c inside is first second =
      let seen : take i xs ++ x ∷ [] ≡ take (i + 1) xs =
      ap (λ (y : A). take i xs ++ y ∷ []) is ∙ sym (take_more xs i x inside) in
      subst (λ (l : List A). IsBase (OneHas P l) a c) seen
      (same_base (λ n. OneHas P (take i xs) n ⊎ P x n) (OneHas P (take i xs ++ x ∷ [])) a c
      (more_have (take i xs) x) (have_more (take i xs) x)
      (join (OneHas P (take i xs)) (P x) a b c first second))

  few_more : (xs : List A) (x : A) → ((n : ℕ) → OneHas P xs n → n < id_limit)
      → ((n : ℕ) → P x n → n < id_limit) → (n : ℕ) → OneHas P (xs ++ x ∷ []) n → n < id_limit
  few_more xs x first second n h = elim (have_more xs x n h) [
    | inl old ↦ first n old
    | inr new ↦ second n new
  ]

  -- ---- ids

  pub no_id_base : (a : ℕ) → IsIdBase (OneHas P []) a a
  no_id_base a = record { base = no_base a; few = λ n h. absurd (none_has n h) }

  pub id_base_more : (xs : List A) (i : ℕ) (x : A) (a b c : ℕ) → i < length xs
      → x ≡ get_or xs i x → IsIdBase (OneHas P (take i xs)) a b → IsIdBase (P x) b c
      → IsIdBase (OneHas P (take (i + 1) xs)) a c
  id_base_more xs i x a b c inside is first second = record {
    base = base_more xs i x a b c inside is first.base second.base;
    few = let seen : take i xs ++ x ∷ [] ≡ take (i + 1) xs =
        ap (λ (y : A). take i xs ++ y ∷ []) is ∙ sym (take_more xs i x inside) in
        subst (λ (l : List A). (n : ℕ) → OneHas P l n → n < id_limit) seen
        (few_more (take i xs) x first.few second.few);
  }

  -- an id of one of them is one of theirs
  pub one_there : (xs : List A) (x : A) (n : ℕ) → Contains xs x → P x n → OneHas P xs n
  one_there xs x n there p = (x, there, p)

pub join_ids : (P Q : ℕ → Type 0) (a b c : ℕ) → IsIdBase P a b → IsIdBase Q b c
    → IsIdBase (λ n. P n ⊎ Q n) a c
join_ids P Q a b c first second = record {
  base = join P Q a b c first.base second.base;
  few = λ n h. elim h [ inl p ↦ first.few n p | inr q ↦ second.few n q ];
}

pub same_id_base : (P Q : ℕ → Type 0) (a b : ℕ) → ((n : ℕ) → P n → Q n)
    → ((n : ℕ) → Q n → P n) → IsIdBase P a b → IsIdBase Q a b
same_id_base P Q a b forth back is = record {
  base = same_base P Q a b forth back is.base;
  few = λ n q. is.few n (back n q);
}

pub none_below : (P : ℕ → Type 0) (a : ℕ) → ((n : ℕ) → P n → ⊥) → IsIdBase P a a
none_below P a none = record {
  base = none_above P a none;
  few = λ n p. absurd (none n p);
}

pub one_below : (P : ℕ → Type 0) (a id : ℕ) → P id → ((n : ℕ) → P n → n ≡ id) → id < id_limit
    → IsIdBase P a (max a (id + 1))
one_below P a id is one low = record {
  base = above_one P a id is one;
  few = λ n p. omega (arith, one n p, low);
}

-- ---- table files

pub late : (name : List ℕ) (table sequence : ℕ) → IsTableName name table sequence
    → IsTrue (nat_lt sequence_limit sequence) ↔ IsLateTable name
late name table sequence named = (
  λ high. (table, (sequence, named, ltb-true sequence_limit sequence high)),
  λ is.
      let both = one_table name is.0 is.1.0 table sequence is.1.1 named in
      lt-ltb sequence_limit sequence (omega (arith, is.1.2, both.1)),
)

-- ---- the id of a name

pub segment_id : (name : List ℕ) (version id : ℕ) → IsSegmentName name version id → (n : ℕ)
    → HasId name n ↔ (n ≡ id)
segment_id name version id is n = (
  λ h. elim h [
    | inl s ↦ (one_segment name s.0 n version id s.1 is).1
    | inr a ↦ absurd ((segment_is_no_other name version id is).0 n a)
  ],
  λ same. inl (version, subst (λ (m : ℕ). IsSegmentName name version m) (sym same) is),
)

pub archive_id : (name : List ℕ) → IsNoSegmentName name → (o : Option ℕ)
    → MatchOption o (IsNoArchiveName name) (λ id. IsArchiveName name id)
    → MatchOption o ((id : ℕ) → ¬ HasId name id) (λ id. (n : ℕ) → HasId name n ↔ (n ≡ id))
archive_id name none None no_archive = λ id h. elim h [
  | inl s ↦ none s.0 id s.1
  | inr a ↦ no_archive id a
]
archive_id name none (Some id) is = λ n. (
  λ h. elim h [
    | inl s ↦ absurd (none s.0 n s.1)
    | inr a ↦ one_archive name n id a is
  ],
  λ same. inr (subst (λ (m : ℕ). IsArchiveName name m) (sym same) is),
)

-- ---- what is answered

pub gives_same : (P Q : ℕ → Type 0) (a : ℕ) (r : Result ℕ OpenFault) → ((n : ℕ) → P n → Q n)
    → ((n : ℕ) → Q n → P n) → GivesBase P a r → GivesBase Q a r
gives_same P Q a (Ok b) forth back gives = same_id_base P Q a b forth back gives
gives_same P Q a (Err e) forth back gives =
    (gives.0, (gives.1.0, forth gives.1.0 gives.1.1, gives.1.2))

pub gives_then : (P Q : ℕ → Type 0) (a b : ℕ) (r : Result ℕ OpenFault) → IsIdBase P a b
    → GivesBase Q b r → GivesBase (λ n. P n ⊎ Q n) a r
gives_then P Q a b (Ok c) first gives = join_ids P Q a b c first gives
gives_then P Q a b (Err e) first gives =
    (gives.0, (gives.1.0, inr gives.1.1, gives.1.2))

-- ---- the next sequence

pub next_fits : (names : List (List ℕ)) (table : Table) (next : ℕ)
    → IsBase (OneHas (HasSequence table) names) 1 next → (Any IsLateTable names → ⊥)
    → next < 2 ^ 63
next_fits names table next is few = elim is.one [
  | inl one ↦ omega (arith, one)
  | inr h ↦ elim (cases_lt sequence_limit h.0) [
    | inl high ↦ absurd (few (
      h.1.1.0,
      h.1.0,
      h.1.1.1,
      h.1.1.2,
      (table.0, (h.0, h.1.2, omega (arith, high))),
    ))
    | inr low ↦ omega (arith, low, h.2)
  ]
]
