-- Two lists that rise by one key, and have the same members, are one list.
use Rattle.std.proofs.Common.{
  ◌≡◌,
  ℕ,
  ◌<◌,
  ◌≤◌,
  inl,
  inr,
  List,
  [],
  ◌∷◌,
  get_or,
  length,
  refl,
  reverse,
  subst,
  sym,
  ap,
  ◌∙◌,
  arith,
}
use Rattle.std.specs.Prelude.{Contains}
use Rattle.std.specs.List.{AllPairs}
use Rattle.std.proofs.Math.Seq.{get_or-append_seam}
use Rattle.std.proofs.lemmas.List.{get_or_append_left, length_push, reverse-append}
use Rattle.std.proofs.lemmas.List.Elements.{Contains-get_or}
use Rattle.std.proofs.lemmas.List.Sorted.{Contains-permutation, IsPermutation-reverse}
use Rattle.clog_base.proofs.Members.{first_or_further, further, here, nothing_there}
use Rattle.path_core.specs.declared.note.EntryNote.{EntryNote}
use Rattle.path_core.proofs.lists.Heads.{ahead, behind}
use Rattle.clog_shares.specs.Shares.{Rise}

module _ {A : Type 0} (key : A → ℕ) where
  -- the key of each is below those of all later ones
  abbrev pub Ascends : List A → Type 0
  Ascends xs = AllPairs (λ (a b : A). key a < key b) xs

  -- of two such lists the first of one is the first of the other
  first_is : (x y : A) (xs ys : List A) → Ascends (x ∷ xs) → Ascends (y ∷ ys)
      → Contains (y ∷ ys) x → Contains (x ∷ xs) y → x ≡ y
  first_is x y xs ys up over here_x here_y = elim (first_or_further y ys x here_x) [
    | inl same ↦ sym same
    | inr late ↦ elim (first_or_further x xs y here_y) [
      | inl same ↦ same
      | inr later ↦
          let a = ahead (λ (a b : A). key a < key b) y ys over x late in
          let b = ahead (λ (a b : A). key a < key b) x xs up y later in
          absurd (omega (arith, a, b))
    ]
  ]

  -- what is behind the first of one is behind the first of the other
  rest_in : (x y : A) (xs ys : List A) → Ascends (x ∷ xs) → x ≡ y
      → ((z : A) → Contains (x ∷ xs) z → Contains (y ∷ ys) z) → (z : A) → Contains xs z
      → Contains ys z
  rest_in x y xs ys up same all z h =
      elim (first_or_further y ys z (all z (further x xs z h))) [
        | inl first ↦
            let below = ahead (λ (a b : A). key a < key b) x xs up z h in
            let equal = ap key (same ∙ first) in
            absurd (omega (arith, below, equal))
        | inr more ↦ more
      ]

  pub same_members : (xs ys : List A) → Ascends xs → Ascends ys
      → ((z : A) → Contains xs z → Contains ys z) → ((z : A) → Contains ys z → Contains xs z)
      → xs ≡ ys
  same_members [] [] up over to from = refl
  same_members [] (y ∷ ys) up over to from = absurd (nothing_there y (from y (here y ys)))
  same_members (x ∷ xs) [] up over to from = absurd (nothing_there x (to x (here x xs)))
  same_members (x ∷ xs) (y ∷ ys) up over to from =
      let same = first_is x y xs ys up over (to x (here x xs)) (from y (here y ys)) in
      let R = λ (a b : A). key a < key b in
      let rest = same_members xs ys (behind R x xs up) (behind R y ys over)
      (rest_in x y xs ys up same to) (rest_in y x ys xs over (sym same) from) in
      λ i. same i ∷ rest i

-- entries that are not empty rise by where they begin
pub by_start : (notes : List EntryNote) → Rise notes
    → ((n : EntryNote) → Contains notes n → n.start.0 < n.end.0)
    → Ascends (λ (n : EntryNote). n.start.0) notes
by_start notes rise some = λ i j d l h.
    let up = rise i j d l h in
    let long = some (get_or notes i d) (Contains-get_or notes i d (omega (arith, l, h))) in
    omega (arith, up, long)

-- of entries with the newest first, the older ones lie below it
pub newest_last : (x : EntryNote) (xs : List EntryNote) → Rise (reverse (x ∷ xs))
    → (m : EntryNote) → Contains xs m → m.end.0 ≤ x.start.0
newest_last x xs rise m among =
    let ys = reverse xs in
    let there = Contains-permutation xs ys m (IsPermutation-reverse xs) among in
    let up = subst (λ (l : List EntryNote). Rise l) (reverse-append (x ∷ []) xs) rise in
    let long = length_push ys x in
    let pair = up there.0 (length ys) m there.1 (omega (arith, long)) in
    let first = ap (λ (n : EntryNote). n.end.0)
    (get_or_append_left ys (x ∷ []) m there.0 there.1 ∙ there.2) in
    let last = ap (λ (n : EntryNote). n.start.0) (get_or-append_seam ys x [] m) in
    omega (arith, pair, first, last)
