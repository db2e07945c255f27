-- Table files that were put in sequence follow one another, table by table.
use Rattle.std.proofs.Common.{
  ◌≡◌,
  ◌⊎◌,
  ℕ,
  ◌+◌,
  ◌<◌,
  ◌≤◌,
  inl,
  inr,
  List,
  [],
  ◌∷◌,
  ◌++◌,
  map,
  Bool,
  true,
  false,
  if◌then◌else◌,
  refl,
  sym,
  ◌∙◌,
  ap,
  subst,
  arith,
}
use Rattle.std.specs.Prelude.{◌==◌}
use Rattle.std.specs.List.{AllPairs, Contains}
use Rattle.std.proofs.lemmas.Bool.{cases_lt}
use Rattle.std.proofs.lemmas.Bool.Decides.{nat_tests}
use Rattle.clog_base.specs.declared.cell.Table.{Table}
use Rattle.clog_base.specs.declared.position.Position.{Position}
use Rattle.clog_base.specs.Positions.{position_of}
use Rattle.clog_base.proofs.Members.{first_or_further, further, here, nothing_there}
use Rattle.path_core.specs.Keeper.{IsFiledIn, PutFile, upper_from}
use Rattle.clog_segments.specs.OnDisk.{file_on}
use Rattle.clog_applied.specs.Filed.{FollowFrom, files_of, first_of, is_of}
use Rattle.clog_applied.proofs.Lists.{kept_one, left_one}
use Rattle.clog_layout.proofs.Pairs.{pairs_cons, pairs_none}
use Rattle.clog_closing.specs.Sequence.{AreInSequence}
use Rattle.clog_closing.proofs.Tables.{up_to_from}

-- of one table, from a key on
abbrev GoOn : ℕ → ℕ → List PutFile → Type 0
GoOn t key files = (front rest : List PutFile) (f : PutFile) → files ≡ front ++ f ∷ rest
    → f.table ≡ t → (f.lower ≡ upper_from t key front) × (f.lower ≤ f.upper)

tail_goes : (t key : ℕ) (f : PutFile) (fs : List PutFile) → GoOn t key (f ∷ fs) → (test : Bool)
    → (f.table == t) ≡ test → GoOn t (if test then f.upper else key) fs
tail_goes t key f fs go test is front rest g cut same =
    let so = go (f ∷ front) rest g (ap (λ (l : List PutFile). f ∷ l) cut) same in (
      so.0 ∙ ap (λ (b : Bool). upper_from t (if b then f.upper else key) front) is,
      so.1,
    )

module _ (base : ℕ) (table : Table) where
  abbrev Follow : ℕ → List PutFile → Type 0
  Follow key files =
      FollowFrom (position_of base key) (files_of table (map (file_on base) files))

  follow_from : (key : ℕ) (files : List PutFile) → GoOn table.0 key files → Follow key files
  follow_from key [] go = tt
  follow_from key (f ∷ fs) go = by_case (f.table == table.0) refl
      (λ (up : GoOn table.0 f.upper fs). follow_from f.upper fs up)
      (λ (up : GoOn table.0 key fs). follow_from key fs up)
    where
      by_case : (test : Bool) → (f.table == table.0) ≡ test
          → (GoOn table.0 f.upper fs → Follow f.upper fs) → (GoOn table.0 key fs → Follow key fs)
          → Follow key (f ∷ fs)
      by_case true is goes left =
          let number : f.table ≡ table.0 = grind (arith, nat_tests, is) in
          let first = go [] fs f refl number in
          let up = goes (tail_goes table.0 key f fs go true is) in
          subst (FollowFrom (position_of base key))
          (sym (kept_one (is_of table) (file_on base f) (map (file_on base) fs) is)) (
            ap (position_of base) first.0,
            up_to_from base f.lower f.upper first.1,
            up,
          )
      by_case false is goes left =
          subst (FollowFrom (position_of base key))
          (sym (left_one (is_of table) (file_on base f) (map (file_on base) fs) is))
          (left (tail_goes table.0 key f fs go false is))

  pub follow : (files : List PutFile) → AreInSequence files
      → FollowFrom (first_of base) (files_of table (map (file_on base) files))
  follow files sequence =
      let id : base + 0 ≡ base = omega arith in
      let at : position_of base 0 ≡ first_of base = λ i. record { id = id i; offset = 0 } in
      subst (λ (p : Position). FollowFrom p (files_of table (map (file_on base) files))) at
      (follow_from 0 files (λ front rest f cut same.
      let so = sequence front rest f cut in
      (subst (λ (t : ℕ). f.lower ≡ upper_from t 0 front) same so.0, so.1)))

-- ---- one file more

not_empty : {A : Type 0} (front : List A) (x : A) (rest : List A) → [] ≡ front ++ x ∷ rest → ⊥
not_empty [] x rest is = cc
not_empty (y ∷ front) x rest is = cc

-- where a list with one more is cut at an element, it is of the list, or the one more
cut_last : {A : Type 0} (xs : List A) (y : A) (front : List A) (x : A) (rest : List A)
    → xs ++ y ∷ [] ≡ front ++ x ∷ rest
    → ((more : List A) × (xs ≡ front ++ x ∷ more)) ⊎ ((front ≡ xs) × (x ≡ y))
cut_last [] y [] x rest is = inr (refl, (let e = is in cc))
cut_last [] y (z ∷ front) x rest is =
    let tails : [] ≡ front ++ x ∷ rest = cc in absurd (not_empty front x rest tails)
cut_last (w ∷ xs) y [] x rest is =
    let same : w ≡ x = cc in inl (xs, ap (λ (z : _). z ∷ xs) same)
cut_last (w ∷ xs) y (z ∷ front) x rest is =
    let same : w ≡ z = cc in
    let tails : xs ++ y ∷ [] ≡ front ++ x ∷ rest = cc in
    elim (cut_last xs y front x rest tails) [
      | inl cut ↦ inl (cut.0, (let e = cut.1 in cc))
      | inr last ↦ inr ((let e = last.0 in cc), last.1)
    ]

pub one_more : (files : List PutFile) (f : PutFile) → AreInSequence files
    → f.lower ≡ upper_from f.table 0 files → f.lower ≤ f.upper → AreInSequence (files ++ f ∷ [])
one_more files f sequence begins forward front rest g cut =
    elim (cut_last files f front g rest cut) [
      | inl inside ↦ sequence front inside.0 g inside.1
      | inr last ↦
          subst (λ (x : PutFile). (x.lower ≡ upper_from x.table 0 front) × (x.lower ≤ x.upper))
          (sym last.1) (
            subst (λ (l : List PutFile). f.lower ≡ upper_from f.table 0 l) (sym last.0) begins,
            forward,
          )
    ]

pub none_in_sequence : AreInSequence []
none_in_sequence front rest f cut = absurd (not_empty front f rest cut)

-- ---- what files in sequence hold

-- they hold each key of their table up to the last one's end
holds_from : (t key : ℕ) (files : List PutFile) → GoOn t key files → (at : ℕ) → key < at
    → at ≤ upper_from t key files → IsFiledIn files t at
holds_from t key [] go at above up_to = absurd (omega (arith, above, up_to))
holds_from t key (f ∷ fs) go at above up_to = by_case (f.table == t) refl
    (λ (up : GoOn t f.upper fs) (a : f.upper < at) (u : at ≤ upper_from t f.upper fs).
    holds_from t f.upper fs up at a u)
    (λ (up : GoOn t key fs) (u : at ≤ upper_from t key fs). holds_from t key fs up at above u)
  where
    later : IsFiledIn fs t at → IsFiledIn (f ∷ fs) t at
    later held = record {
      file = held.file;
      among = further f fs held.file held.among;
      of_table = held.of_table;
      above = held.above;
      up_to = held.up_to;
    }

    by_case : (test : Bool) → (f.table == t) ≡ test
        → (GoOn t f.upper fs → f.upper < at → at ≤ upper_from t f.upper fs → IsFiledIn fs t at)
        → (GoOn t key fs → at ≤ upper_from t key fs → IsFiledIn fs t at)
        → IsFiledIn (f ∷ fs) t at
    by_case true is its left =
        let number : f.table ≡ t = grind (arith, nat_tests, is) in
        let first = go [] fs f refl number in
        let rest : at ≤ upper_from t f.upper fs =
        subst (λ (b : Bool). at ≤ upper_from t (if b then f.upper else key) fs) is up_to in
        elim (cases_lt f.upper at) [
          | inl behind ↦ later (its (tail_goes t key f fs go true is) behind rest)
          | inr within ↦ record {
            file = f;
            among = here f fs;
            of_table = number;
            above = omega (arith, first.0, above);
            up_to = omega (arith, within);
          }
        ]
    by_case false is its left =
        later (left (tail_goes t key f fs go false is)
        (subst (λ (b : Bool). at ≤ upper_from t (if b then f.upper else key) fs) is up_to))

pub holds_each : (t : ℕ) (files : List PutFile) → AreInSequence files → (at : ℕ) → 0 < at
    → at ≤ upper_from t 0 files → IsFiledIn files t at
holds_each t files sequence =
    holds_from t 0 files (λ front rest f cut same.
    let so = sequence front rest f cut in
    (subst (λ (k : ℕ). f.lower ≡ upper_from k 0 front) same so.0, so.1))

-- ---- files of a table end before later ones begin

abbrev pub EndsBefore : PutFile → PutFile → Type 0
EndsBefore a b = a.table ≡ b.table → a.upper ≤ b.lower

-- none begins below the key from which they go on
begins_from : (t key : ℕ) (files : List PutFile) → GoOn t key files → (g : PutFile)
    → Contains files g → g.table ≡ t → key ≤ g.lower
begins_from t key [] go g among same = absurd (nothing_there g among)
begins_from t key (f ∷ fs) go g among same = elim (first_or_further f fs g among) [
  | inl first ↦
      let so = go [] fs f refl (ap (λ (x : PutFile). x.table) first ∙ same) in
      subst (λ (x : PutFile). key ≤ x.lower) first (omega (arith, so.0))
  | inr more ↦ by_case (f.table == t) refl
      (λ (up : GoOn t f.upper fs). begins_from t f.upper fs up g more same)
      (λ (up : GoOn t key fs). begins_from t key fs up g more same)
]
  where
    by_case : (test : Bool) → (f.table == t) ≡ test → (GoOn t f.upper fs → f.upper ≤ g.lower)
        → (GoOn t key fs → key ≤ g.lower) → key ≤ g.lower
    by_case true is its left =
        let number : f.table ≡ t = grind (arith, nat_tests, is) in
        let so = go [] fs f refl number in
        omega (arith, so.0, so.1, its (tail_goes t key f fs go true is))
    by_case false is its left = left (tail_goes t key f fs go false is)

ascending : (files : List PutFile) → ((t : ℕ) → (key : ℕ) × GoOn t key files)
    → AllPairs EndsBefore files
ascending [] go = pairs_none EndsBefore
ascending (f ∷ fs) go =
    pairs_cons EndsBefore f fs
    (λ g among same.
    let own = go f.table in
    begins_from f.table f.upper fs
    (tail_goes f.table own.0 f fs own.1 true (grind (arith, nat_tests))) g among (sym same))
    (ascending fs (λ t.
    let one = go t in (
      if f.table == t then f.upper else one.0,
      tail_goes t one.0 f fs one.1 (f.table == t) refl,
    )))

pub ascend : (files : List PutFile) → AreInSequence files → AllPairs EndsBefore files
ascend files sequence =
    ascending files (λ t. (
      0,
      λ front rest f cut same.
          let so = sequence front rest f cut in
          (subst (λ (k : ℕ). f.lower ≡ upper_from k 0 front) same so.0, so.1),
    ))
