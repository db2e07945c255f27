-- Of notes in the order of the log, those up to a key are the first; each writer's among them are
-- the first of its own.
use Rattle.std.proofs.Common.{
  ◌≡◌,
  ℕ,
  ◌≤◌,
  Bool,
  true,
  false,
  ◌&&◌,
  nat_le,
  nat_lt,
  List,
  [],
  ◌∷◌,
  ◌++◌,
  length,
  refl,
  sym,
  ap,
  ◌∙◌,
  arith,
  append_assoc,
}
use Rattle.std.specs.Prelude.{Contains}
use Rattle.std.specs.List.{filter}
use Rattle.std.proofs.lemmas.Bool.{leb-false, lt-leb, ltb-true}
use Rattle.std.proofs.lemmas.List.{length-append, nil_from_length}
use Rattle.clog_base.proofs.Members.{further, here}
use Rattle.clog_applied.specs.History.{Line}
use Rattle.clog_applied.proofs.Lists.{kept_one, left_one}
use Rattle.path_core.specs.declared.note.EntryNote.{EntryNote}
use Rattle.path_core.specs.LawfulLog.{is_at_most}
use Rattle.path_core.specs.Next.{is_between}
use Rattle.path_core.proofs.lists.Heads.{ahead, behind}
use Rattle.path_core.proofs.log.Between.{AreLong, IsInOrder}
use Rattle.clog_shares.specs.Shares.{AreFirstWrites, AreWritesOf}

-- ---- lists

pub all_pass : {A : Type 0} (p : A → Bool) (xs : List A)
    → ((x : A) → Contains xs x → p x ≡ true) → filter p xs ≡ xs
all_pass p [] all = refl
all_pass p (x ∷ xs) all = kept_one p x xs (all x (here x xs))
    ∙ ap (λ (l : List _). x ∷ l) (all_pass p xs (λ y h. all y (further x xs y h)))

pub none_pass : {A : Type 0} (p : A → Bool) (xs : List A)
    → ((x : A) → Contains xs x → p x ≡ false) → filter p xs ≡ []
none_pass p [] none = refl
none_pass p (x ∷ xs) none = left_one p x xs (none x (here x xs))
    ∙ none_pass p xs (λ y h. none y (further x xs y h))

pub first_none : {A : Type 0} (xs ys : List A) → xs ++ ys ≡ [] → xs ≡ []
first_none xs ys none =
    nil_from_length xs (omega (arith, length-append xs ys, ap length none))

-- ---- up to a key

-- where the upper key is not above the lower one, nothing is between
pub none_between : (low high : ℕ) → high ≤ low → (n : EntryNote) → is_between low high n ≡ false
none_between low high le n = by (nat_lt low n.end.0) refl
  where
    by : (b : Bool) → nat_lt low n.end.0 ≡ b → (b && nat_le n.end.0 high) ≡ false
    by false is = refl
    by true is = lt-leb n.end.0 high (let above = ltb-true low n.end.0 is in
        omega (arith, le, above))

pub up_to : (top : ℕ) (notes : List EntryNote) → IsInOrder notes → AreLong notes
    → (rest : List EntryNote) × (notes ≡ filter (is_at_most top) notes ++ rest)
up_to top [] order long = ([], refl)
up_to top (n ∷ ns) order long =
    by (nat_le n.end.0 top) refl
    (up_to top ns (behind (λ (a b : EntryNote). a.end.0 ≤ b.start.0) n ns order)
    (λ m h. long m (further n ns m h)))
  where
    none : nat_le n.end.0 top ≡ false → filter (is_at_most top) ns ≡ []
    none is = none_pass (is_at_most top) ns (λ m h.
        let above = leb-false n.end.0 top is in
        let up = ahead (λ (a b : EntryNote). a.end.0 ≤ b.start.0) n ns order m h in
        let some = long m (further n ns m h) in
        lt-leb m.end.0 top (omega (arith, above, up, some)))

    by : (b : Bool) → nat_le n.end.0 top ≡ b
        → (rest : List EntryNote) × (ns ≡ filter (is_at_most top) ns ++ rest)
        → (rest : List EntryNote) × (n ∷ ns ≡ filter (is_at_most top) (n ∷ ns) ++ rest)
    by true is first = (
      first.0,
      ap (λ (l : List EntryNote). n ∷ l) first.1
          ∙ ap (λ (l : List EntryNote). l ++ first.0) (sym (kept_one (is_at_most top) n ns is)),
    )
    by false is first = (
      n ∷ ns,
      ap (λ (l : List EntryNote). l ++ n ∷ ns)
          (sym (left_one (is_at_most top) n ns is ∙ none is)),
    )

-- ---- a writer's

pub first_writes : (w : ℕ) (ls : List Line) (xs ys : List EntryNote) → AreWritesOf w ls (xs ++ ys)
    → AreFirstWrites w ls xs
first_writes w ls [] ys are = record { done = []; left = ls; parts = refl; are = tt }
first_writes w [] (x ∷ xs) ys are = absurd are
first_writes w (l ∷ ls) (x ∷ xs) ys are =
    let rest = first_writes w ls xs ys are.1 in
    record {
      done = l ∷ rest.done;
      left = rest.left;
      parts = ap (λ (k : List Line). l ∷ k) rest.parts;
      are = (are.0, rest.are);
    }

-- the first of the first lines are the first of all
pub first_of_more : (w : ℕ) (lines done left : List Line) (notes : List EntryNote)
    → lines ≡ done ++ left → AreFirstWrites w done notes → AreFirstWrites w lines notes
first_of_more w lines done left notes parts first = record {
  done = first.done;
  left = first.left ++ left;
  parts = parts ∙ ap (λ (l : List Line). l ++ left) first.parts
      ∙ append_assoc first.done first.left left;
  are = first.are;
}
