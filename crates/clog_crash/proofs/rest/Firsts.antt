-- What restores the first of some entries restores the first of more, and of those behind others.
use Rattle.std.proofs.Common.{
  ◌≡◌,
  ℕ,
  suc,
  ◌+◌,
  ◌≤◌,
  inl,
  inr,
  List,
  [],
  ◌∷◌,
  ◌++◌,
  length,
  take,
  sym,
  ◌∙◌,
  ap,
  subst,
  arith,
}
use Rattle.std.specs.Prelude.{◌↔◌}
use Rattle.std.proofs.lemmas.List.{length-append, take-append-le}
use Rattle.std.proofs.lemmas.List.Elements.{
  Contains-append_left,
  Contains-append_right,
  Contains-append_cases,
}
use Rattle.clog_base.specs.declared.cell.Cell.{Cell}
use Rattle.clog_base.specs.declared.cell.CellKey.{CellKey}
use Rattle.clog_base.proofs.Members.{nothing_there}
use Rattle.clog_disk.specs.Files.{Files, bytes_at}
use Rattle.clog_scan.specs.Segment.{Entry}
use Rattle.clog_crash.specs.Covering.{Either, SameMerge}
use Rattle.clog_crash.specs.Readings.{Reading, RestoresIn, IsCellAmong}
use Rattle.clog_crash.specs.Showing.{RestoresFirst}
use Rattle.clog_crash.proofs.changes.Covering.{exactly, either_same, merge_then}

-- ---- cells among entries

among_front : (one two : List Entry) (pair : CellKey × Cell) → IsCellAmong one pair
    → IsCellAmong (one ++ two) pair
among_front one two pair c = record {
  entry = c.entry;
  listed = Contains-append_left one two c.entry c.listed;
  cell = c.cell;
}

among_back : (one two : List Entry) (pair : CellKey × Cell) → IsCellAmong two pair
    → IsCellAmong (one ++ two) pair
among_back one two pair c = record {
  entry = c.entry;
  listed = Contains-append_right one two c.entry c.listed;
  cell = c.cell;
}

among_either : (one two : List Entry) (pair : CellKey × Cell) → IsCellAmong (one ++ two) pair
    → Either (IsCellAmong one) (IsCellAmong two) pair
among_either one two pair c = elim (Contains-append_cases one two c.entry c.listed) [
  | inl first ↦ inl (record { entry = c.entry; listed = first; cell = c.cell })
  | inr second ↦ inr (record { entry = c.entry; listed = second; cell = c.cell })
]

-- a first part and a second one are both
among_both : (A : CellKey × Cell → Type 0) (one two : List Entry) (pair : CellKey × Cell)
    → Either (Either A (IsCellAmong one)) (IsCellAmong two) pair
    ↔ Either A (IsCellAmong (one ++ two)) pair
among_both A one two pair = (
  λ x. elim x [
    | inl before ↦ elim before [
      | inl old ↦ inl old
      | inr first ↦ inr (among_front one two pair first)
    ]
    | inr second ↦ inr (among_back one two pair second)
  ],
  λ x. elim x [
    | inl old ↦ inl (inl old)
    | inr new ↦ elim (among_either one two pair new) [
      | inl first ↦ inl (inr first)
      | inr second ↦ inr second
    ]
  ],
)

-- none are among no entries
pub among_none : (A : CellKey × Cell → Type 0) → SameMerge A (Either A (IsCellAmong []))
among_none A = exactly A (Either A (IsCellAmong [])) (λ pair. (
  λ a. inl a,
  λ x. elim x [
    | inl a ↦ a
    | inr none ↦ absurd (nothing_there none.entry none.listed)
  ],
))

-- what restores a first part and then a second one restores both
pub both_parts : (A B C : CellKey × Cell → Type 0) (one two : List Entry)
    → SameMerge A (Either B (IsCellAmong two)) → SameMerge B (Either C (IsCellAmong one))
    → SameMerge A (Either C (IsCellAmong (one ++ two)))
both_parts A B C one two a b =
    let First = Either C (IsCellAmong one) in
    let Both = Either C (IsCellAmong (one ++ two)) in
    merge_then A (Either B (IsCellAmong two)) Both a
    (merge_then (Either B (IsCellAmong two)) (Either First (IsCellAmong two)) Both
    (either_same B First (IsCellAmong two) b)
    (exactly (Either First (IsCellAmong two)) Both (among_both C one two)))

-- ---- first entries

pub take_sum : (first second : List Entry) (n : ℕ)
    → take (length first + n) (first ++ second) ≡ first ++ take n second
take_sum [] second n = let e : 0 + n ≡ n = omega arith in ap (λ k. take k second) e
take_sum (e ∷ es) second n =
    let k : length (e ∷ es) + n ≡ suc (length es + n) = omega arith in
    ap (λ j. take j (e ∷ (es ++ second))) k ∙ ap (λ l. e ∷ l) (take_sum es second n)

-- fewer are enough
pub fewer : (r : Reading) (less least : ℕ) (entries : List Entry) (image : Files) → less ≤ least
    → RestoresFirst r least entries image → RestoresFirst r less entries image
fewer r less least entries image le p = record {
  n = p.n;
  enough = omega (arith, le, p.enough);
  some = p.some;
  restores = p.restores;
  undamaged = p.undamaged;
}

-- the first of these are the first of more
pub first_more : (r : Reading) (least : ℕ) (entries more : List Entry) (image : Files)
    → RestoresFirst r least entries image → RestoresFirst r least (entries ++ more) image
first_more r least entries more image p = record {
  n = p.n;
  enough = p.enough;
  some = omega (arith, p.some, length-append entries more);
  restores = subst (λ (es : List Entry).
      SameMerge (RestoresIn (bytes_at image)) (Either (RestoresIn r) (IsCellAmong es)))
      (sym (take-append-le p.n entries more p.some)) p.restores;
  undamaged = p.undamaged;
}

-- behind all of others
pub first_behind : (q r : Reading) (least : ℕ) (first second : List Entry) (image : Files)
    → SameMerge (RestoresIn q) (Either (RestoresIn r) (IsCellAmong first))
    → RestoresFirst q least second image
    → RestoresFirst r (length first + least) (first ++ second) image
first_behind q r least first second image same p = record {
  n = length first + p.n;
  enough = omega (arith, p.enough);
  some = omega (arith, p.some, length-append first second);
  restores = subst (λ (es : List Entry).
      SameMerge (RestoresIn (bytes_at image)) (Either (RestoresIn r) (IsCellAmong es)))
      (sym (take_sum first second p.n))
      (both_parts (RestoresIn (bytes_at image)) (RestoresIn q) (RestoresIn r) first
      (take p.n second) p.restores same);
  undamaged = p.undamaged;
}

-- over another reading with the same newest cells
pub first_over : (q r : Reading) (least : ℕ) (entries : List Entry) (image : Files)
    → SameMerge (RestoresIn q) (RestoresIn r) → RestoresFirst q least entries image
    → RestoresFirst r least entries image
first_over q r least entries image same p =
    let first = IsCellAmong (take p.n entries) in
    record {
      n = p.n;
      enough = p.enough;
      some = p.some;
      restores = merge_then (RestoresIn (bytes_at image)) (Either (RestoresIn q) first)
          (Either (RestoresIn r) first) p.restores
          (either_same (RestoresIn q) (RestoresIn r) first same);
      undamaged = p.undamaged;
    }
