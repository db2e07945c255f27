-- Hulls by ascending ordinals: a search by halves finds a segment's, and one is put among them.
use Rattle.std.proofs.Common.{
  ◌≡◌,
  ℕ,
  zero,
  suc,
  ◌<◌,
  ◌≤◌,
  Bool,
  false,
  List,
  [],
  ◌∷◌,
  ◌++◌,
  length,
  take,
  drop,
  get_or,
  Option,
  Some,
  None,
  refl,
  sym,
  ap,
  subst,
  ◌∙◌,
  inl,
  inr,
  arith,
}
use Rattle.std.specs.Prelude.{◌==◌, if◌then◌else◌, nat_lt, slice_set}
use Rattle.std.specs.List.{AllByRecursion, AllWithin}
use Rattle.std.specs.List.Sorted.{IsPartitionedBy}
use Rattle.std.proofs.lemmas.Bool.{cases_lt, eq-eqb, lt-ltb, ltb-true}
use Rattle.std.proofs.lemmas.Bool.Decides.{eqb_tells}
use Rattle.std.proofs.Math.Seq.{drop-cons}
use Rattle.std.proofs.lemmas.List.{take-append-drop}
use Rattle.clog_base.specs.declared.position.Position.{Position}
use Rattle.clog_base.proofs.Members.{nothing_there}
use Rattle.clog_intervals.specs.Hulls.{IsHull}
use Rattle.clog_due.specs.declared.hulls.SegmentHull.{SegmentHull}
use Rattle.clog_due.specs.HullRows.{AreAbove, AreBelow, AreFrom, Ascend, BeginsAt, hull_at}

abbrev Ends : Type 0
Ends = Option (Position × Position)

-- ---- a search by halves

above_at : (o : ℕ) (rows : List SegmentHull) (j : ℕ) (d : SegmentHull) → j < length rows
    → AreAbove o rows → o < (get_or rows j d).ordinal
above_at o [] j d inside above = absurd (omega (arith, inside))
above_at o (row ∷ rows) zero d inside above = above.0
above_at o (row ∷ rows) (suc j) d inside above =
    let further : j < length rows = omega (arith, inside) in above_at o rows j d further above.1

rise : (rows : List SegmentHull) (i j : ℕ) (d : SegmentHull) → Ascend rows → i ≤ j
    → j < length rows → (get_or rows i d).ordinal ≤ (get_or rows j d).ordinal
rise [] i j d ascend le inside = absurd (omega (arith, inside))
rise (row ∷ rows) zero zero d ascend le inside = omega arith
rise (row ∷ rows) (suc i) zero d ascend le inside = absurd (omega (arith, le))
rise (row ∷ rows) zero (suc j) d ascend le inside =
    let further : j < length rows = omega (arith, inside) in
    let up = above_at row.ordinal rows j d further ascend.0 in
    omega (arith, up)
rise (row ∷ rows) (suc i) (suc j) d ascend le inside =
    let less : i ≤ j = omega (arith, le) in
    let further : j < length rows = omega (arith, inside) in
    rise rows i j d ascend.1 less further

pub parted : (rows : List SegmentHull) (o : ℕ) → Ascend rows
    → IsPartitionedBy (λ (row : SegmentHull). nat_lt row.ordinal o) rows
parted rows o ascend i j d le inside is =
    let up = rise rows i j d ascend le inside in
    let low = ltb-true (get_or rows j d).ordinal o is in
    lt-ltb (get_or rows i d).ordinal o (omega (arith, up, low))

-- what holds at each index below one holds of the rows before it, and from there on of the others
pub all_in_front : (P : SegmentHull → Type 0) (rows : List SegmentHull) (k : ℕ)
    → k ≤ length rows → AllWithin P rows 0 k → AllByRecursion P (take k rows)
all_in_front P rows zero fits all = tt
all_in_front P [] (suc k) fits all = absurd (omega (arith, fits))
all_in_front P (row ∷ rows) (suc k) fits all = (
  all zero row (omega arith) (omega arith),
  all_in_front P rows k (omega (arith, fits))
      (λ i d low high. all (suc i) d (omega arith) (omega (arith, high))),
)

pub all_in_back : (P : SegmentHull → Type 0) (rows : List SegmentHull) (k : ℕ)
    → AllWithin P rows k (length rows) → AllByRecursion P (drop k rows)
all_in_back P [] zero all = tt
all_in_back P [] (suc k) all = tt
all_in_back P (row ∷ rows) zero all = (
  all zero row (omega arith) (omega arith),
  all_in_back P rows zero (λ i d low high. all (suc i) d (omega arith) (omega (arith, high))),
)
all_in_back P (row ∷ rows) (suc k) all =
    all_in_back P rows k (λ i d low high. all (suc i) d (omega (arith, low)) (omega (arith, high)))

-- inside a list the default does not matter
get_or-inside : (rows : List SegmentHull) (k : ℕ) (c d : SegmentHull) → k < length rows
    → get_or rows k c ≡ get_or rows k d
get_or-inside [] k c d inside = absurd (omega (arith, inside))
get_or-inside (row ∷ rows) zero c d inside = refl
get_or-inside (row ∷ rows) (suc k) c d inside =
    let further : k < length rows = omega (arith, inside) in get_or-inside rows k c d further

-- a row in place of another
pub set_is : (rows : List SegmentHull) (k : ℕ) (row : SegmentHull) → k < length rows
    → slice_set rows k row ≡ take k rows ++ row ∷ drop (suc k) rows
set_is [] k row inside = absurd (omega (arith, inside))
set_is (first ∷ rows) zero row inside = refl
set_is (first ∷ rows) (suc k) row inside =
    let further : k < length rows = omega (arith, inside) in
    ap (λ (l : List SegmentHull). first ∷ l) (set_is rows k row further)

-- ---- what is found

pub no_hull : (hull : Ends) → IsHull hull [] → hull ≡ None
no_hull None is = refl
no_hull (Some ends) is = absurd (nothing_there ends.0 is.has_least)

not_equal : (a b : ℕ) → (a ≡ b → ⊥) → (a == b) ≡ false
not_equal a b apart = elim (eqb_tells a b) [
  | inl same ↦ absurd (apart same.1)
  | inr other ↦ other.0
]

above_less : (a b : ℕ) (rows : List SegmentHull) → a ≤ b → AreAbove b rows → AreAbove a rows
above_less a b [] le above = tt
above_less a b (row ∷ rows) le above =
    (omega (arith, le, above.0), above_less a b rows le above.1)

-- the segments before an ordinal are passed over
passed : (o : ℕ) (xs ys : List SegmentHull) → AreBelow o xs
    → hull_at (xs ++ ys) o ≡ hull_at ys o
passed o [] ys below = refl
passed o (x ∷ xs) ys below =
    let apart : (x.ordinal == o) ≡ false =
    not_equal x.ordinal o (λ same. omega (arith, same, below.0)) in
    ap (λ (b : Bool). if b then x.hull else hull_at (xs ++ ys) o) apart
    ∙ passed o xs ys below.1

above_none : (o : ℕ) (rows : List SegmentHull) → AreAbove o rows → hull_at rows o ≡ None
above_none o [] above = refl
above_none o (row ∷ rows) above =
    let apart : (row.ordinal == o) ≡ false =
    not_equal row.ordinal o (λ same. omega (arith, same, above.0)) in
    ap (λ (b : Bool). if b then row.hull else hull_at rows o) apart
    ∙ above_none o rows above.1

ascend_behind : (xs ys : List SegmentHull) → Ascend (xs ++ ys) → Ascend ys
ascend_behind [] ys ascend = ascend
ascend_behind (x ∷ xs) ys ascend = ascend_behind xs ys ascend.1

-- the others stand behind the ordinal, where the first of them is not its segment
others_above : (o : ℕ) (rows : List SegmentHull) → AreFrom o rows → Ascend rows
    → (BeginsAt o rows → ⊥) → AreAbove o rows
others_above o [] from ascend other = tt
others_above o (row ∷ rows) from ascend other = elim (cases_lt o row.ordinal) [
  | inl low ↦ (low, above_less o row.ordinal rows (omega (arith, low)) ascend.0)
  | inr high ↦ absurd (other (omega (arith, high, from.0)))
]

found_in : (o : ℕ) (xs ys : List SegmentHull) (row : SegmentHull) → AreBelow o xs
    → row.ordinal ≡ o → hull_at (xs ++ row ∷ ys) o ≡ row.hull
found_in o xs ys row below same =
    passed o xs (row ∷ ys) below
    ∙ ap (λ (b : Bool). if b then row.hull else hull_at ys o) (eq-eqb row.ordinal o same)

others_put : (o : ℕ) (xs ys : List SegmentHull) (row : SegmentHull) → (row.ordinal ≡ o → ⊥)
    → hull_at (xs ++ row ∷ ys) o ≡ hull_at (xs ++ ys) o
others_put o [] ys row apart =
    ap (λ (b : Bool). if b then row.hull else hull_at ys o) (not_equal row.ordinal o apart)
others_put o (x ∷ xs) ys row apart =
    ap (λ (e : Ends). if x.ordinal == o then x.hull else e) (others_put o xs ys row apart)

-- ---- one is put among them

above_put : (k : ℕ) (xs ys : List SegmentHull) (row : SegmentHull) → AreAbove k (xs ++ ys)
    → k < row.ordinal → AreAbove k (xs ++ row ∷ ys)
above_put k [] ys row above low = (low, above)
above_put k (x ∷ xs) ys row above low = (above.0, above_put k xs ys row above.1 low)

ascend_put : (xs ys : List SegmentHull) (row : SegmentHull) → Ascend (xs ++ ys)
    → AreBelow row.ordinal xs → AreAbove row.ordinal ys → Ascend (xs ++ row ∷ ys)
ascend_put [] ys row ascend below above = (above, ascend)
ascend_put (x ∷ xs) ys row ascend below above = (
  above_put x.ordinal xs ys row ascend.0 below.0,
  ascend_put xs ys row ascend.1 below.1 above,
)

-- or in place of another of its segment
above_same : (k : ℕ) (xs ys : List SegmentHull) (y row : SegmentHull)
    → y.ordinal ≡ row.ordinal → AreAbove k (xs ++ y ∷ ys) → AreAbove k (xs ++ row ∷ ys)
above_same k [] ys y row same above = (omega (arith, same, above.0), above.1)
above_same k (x ∷ xs) ys y row same above = (above.0, above_same k xs ys y row same above.1)

ascend_same : (xs ys : List SegmentHull) (y row : SegmentHull) → y.ordinal ≡ row.ordinal
    → Ascend (xs ++ y ∷ ys) → Ascend (xs ++ row ∷ ys)
ascend_same [] ys y row same ascend =
    (subst (λ (k : ℕ). AreAbove k ys) same ascend.0, ascend.1)
ascend_same (x ∷ xs) ys y row same ascend = (
  above_same x.ordinal xs ys y row same ascend.0,
  ascend_same xs ys y row same ascend.1,
)

-- ---- rows parted at an ordinal

module _ (rows : List SegmentHull) (k o : ℕ) (ascend : Ascend rows)
    (below : AreBelow o (take k rows)) (from : AreFrom o (drop k rows)) where
  whole : take k rows ++ drop k rows ≡ rows
  whole = take-append-drop k rows

  above_all : (BeginsAt o (drop k rows) → ⊥) → AreAbove o (drop k rows)
  above_all absent =
      others_above o (drop k rows) from
      (ascend_behind (take k rows) (drop k rows) (subst Ascend (sym whole) ascend)) absent

  pub hull_absent : (BeginsAt o (drop k rows) → ⊥) → hull_at rows o ≡ None
  hull_absent absent =
      ap (λ (l : List SegmentHull). hull_at l o) (sym whole)
      ∙ passed o (take k rows) (drop k rows) below
      ∙ above_none o (drop k rows) (above_all absent)

  module _ (y : SegmentHull) (inside : k < length rows) (y_is : get_or rows k y ≡ y)
      (begins : BeginsAt o (drop k rows)) where
    rest_is : drop k rows ≡ y ∷ drop (suc k) rows
    rest_is =
        drop-cons rows k y inside
        ∙ ap (λ (r : SegmentHull). r ∷ drop (suc k) rows) y_is

    split : rows ≡ take k rows ++ y ∷ drop (suc k) rows
    split = sym whole ∙ ap (λ (l : List SegmentHull). take k rows ++ l) rest_is

    segment_is : y.ordinal ≡ o
    segment_is = subst (BeginsAt o) rest_is begins

    pub hull_found : y.hull ≡ hull_at rows o
    hull_found =
        sym (ap (λ (l : List SegmentHull). hull_at l o) split
        ∙ found_in o (take k rows) (drop (suc k) rows) y below segment_is)

-- a row is put among them, or in place of the one of its segment
module _ (rows : List SegmentHull) (k : ℕ) (row : SegmentHull) (ascend : Ascend rows)
    (below : AreBelow row.ordinal (take k rows)) (from : AreFrom row.ordinal (drop k rows)) where
  pub put_here : (behind : List SegmentHull)
      → hull_at (take k rows ++ row ∷ behind) row.ordinal ≡ row.hull
  put_here behind = found_in row.ordinal (take k rows) behind row below refl

  pub put_ascend : (BeginsAt row.ordinal (drop k rows) → ⊥)
      → Ascend (take k rows ++ row ∷ drop k rows)
  put_ascend absent =
      ascend_put (take k rows) (drop k rows) row
      (subst Ascend (sym (whole rows k row.ordinal ascend below from)) ascend) below
      (above_all rows k row.ordinal ascend below from absent)

  pub put_others : (o : ℕ) → (o ≡ row.ordinal → ⊥)
      → hull_at (take k rows ++ row ∷ drop k rows) o ≡ hull_at rows o
  put_others o apart =
      others_put o (take k rows) (drop k rows) row (λ same. apart (sym same))
      ∙ ap (λ (l : List SegmentHull). hull_at l o) (whole rows k row.ordinal ascend below from)

  module _ (inside : k < length rows) (begins : BeginsAt row.ordinal (drop k rows)) where
    abbrev old : SegmentHull
    old = get_or rows k row

    again : get_or rows k old ≡ old
    again = get_or-inside rows k old row inside

    old_is : old.ordinal ≡ row.ordinal
    old_is = segment_is rows k row.ordinal ascend below from old inside again begins

    parts : rows ≡ take k rows ++ old ∷ drop (suc k) rows
    parts = split rows k row.ordinal ascend below from old inside again begins

    pub same_ascend : Ascend (take k rows ++ row ∷ drop (suc k) rows)
    same_ascend =
        ascend_same (take k rows) (drop (suc k) rows) old row old_is
        (subst Ascend parts ascend)

    pub same_others : (o : ℕ) → (o ≡ row.ordinal → ⊥)
        → hull_at (take k rows ++ row ∷ drop (suc k) rows) o ≡ hull_at rows o
    same_others o apart =
        others_put o (take k rows) (drop (suc k) rows) row (λ same. apart (sym same))
        ∙ sym (others_put o (take k rows) (drop (suc k) rows) old
        (λ same. apart (sym same ∙ old_is)))
        ∙ ap (λ (l : List SegmentHull). hull_at l o) (sym parts)
