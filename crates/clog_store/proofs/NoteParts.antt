-- Pending notes are parted at a key in one way, where those up to it end one above the other.
use Rattle.std.proofs.Common.{
  ◌≡◌,
  ℕ,
  zero,
  suc,
  ◌<◌,
  ◌≤◌,
  ◌==◌,
  inl,
  inr,
  Bool,
  true,
  false,
  List,
  [],
  ◌∷◌,
  ◌++◌,
  length,
  get_or,
  if◌then◌else◌,
  refl,
  sym,
  ◌∙◌,
  ap,
  arith,
}
use Rattle.std.specs.List.{AllPairs, Contains, sum_by}
use Rattle.std.proofs.lemmas.Bool.Decides.{nat_tests}
use Rattle.std.proofs.lemmas.List.{get_or_default}
use Rattle.std.proofs.lemmas.List.Elements.{
  Contains-append_cases,
  Contains-append_left,
}
use Rattle.std.proofs.lemmas.List.Sorted.{
  Contains-permutation,
  IsPermutation-sym,
  sum_by-IsPermutation,
}
use Rattle.std.proofs.lemmas.List.Sums.{sum_by-append, sum_by-cons}
use Rattle.path_core.specs.declared.note.EntryNote.{EntryNote}
use Rattle.path_core.specs.Keeper.{IsParted}
use Rattle.path_core.proofs.lists.Heads.{ahead, behind, first_in, first_or_later, later_in}

abbrev pub Below : EntryNote → EntryNote → Type 0
Below a b = a.end.0 < b.end.0

abbrev UpTo : EntryNote → EntryNote → Type 0
UpTo a b = a.end.0 ≤ b.end.0

pub pairs_more : (x : EntryNote) (xs : List EntryNote)
    → ((y : EntryNote) → Contains xs y → Below x y) → AllPairs Below xs → AllPairs Below (x ∷ xs)
pairs_more x xs first more zero zero d l h = absurd (omega (arith, l))
pairs_more x xs first more zero (suc j) d l h =
    let inside : j < length xs = omega (arith, h) in
    let y = get_or xs j d in
    first y (j, inside, get_or_default xs j y d inside)
pairs_more x xs first more (suc i) zero d l h = absurd (omega (arith, l))
pairs_more x xs first more (suc i) (suc j) d l h =
    more i j d (omega (arith, l)) (omega (arith, h))

-- ---- how many notes end at a key

abbrev ends_here : ℕ → EntryNote → ℕ
ends_here key n = if n.end.0 == key then 1 else 0

abbrev count : ℕ → List EntryNote → ℕ
count key ns = sum_by (ends_here key) ns

at_test : (key : ℕ) (n : EntryNote) (b : Bool) → (n.end.0 == key) ≡ b
    → ends_here key n ≡ (if b then 1 else 0)
at_test key n b is = ap (λ (c : Bool). if c then 1 else 0) is

ends_at : (key : ℕ) (n : EntryNote) → n.end.0 ≡ key → ends_here key n ≡ 1
ends_at key n same =
    at_test key n true (let test : (n.end.0 == key) ≡ true = grind (arith, nat_tests) in test)

ends_elsewhere : (key : ℕ) (n : EntryNote) → (n.end.0 ≡ key → ⊥) → ends_here key n ≡ 0
ends_elsewhere key n other = by (n.end.0 == key) refl
  where
    by : (b : Bool) → (n.end.0 == key) ≡ b → ends_here key n ≡ 0
    by false is = at_test key n false is
    by true is =
        absurd (other (let same : n.end.0 ≡ key = grind (arith, nat_tests) in same))

at_most_one : (key : ℕ) (n : EntryNote) → ends_here key n ≤ 1
at_most_one key n = by (n.end.0 == key) refl
  where
    by : (b : Bool) → (n.end.0 == key) ≡ b → ends_here key n ≤ 1
    by true is = omega (arith, at_test key n true is)
    by false is = omega (arith, at_test key n false is)

none_above : (key : ℕ) (ns : List EntryNote) → ((n : EntryNote) → Contains ns n → key < n.end.0)
    → count key ns ≡ 0
none_above key [] above = refl
none_above key (n ∷ ns) above =
    let first = above n (first_in n ns) in
    omega (
      arith,
      sum_by-cons (ends_here key) n ns,
      ends_elsewhere key n (λ same. omega (arith, first, same)),
      none_above key ns (λ m among. above m (later_in n m ns among)),
    )

counted : (n : EntryNote) (ns : List EntryNote) → Contains ns n → 1 ≤ count n.end.0 ns
counted n [] among = absurd (omega (arith, among.1))
counted n (m ∷ ms) among =
    let all = sum_by-cons (ends_here n.end.0) m ms in
    elim (first_or_later m n ms among) [
      | inl same ↦ omega (
        arith,
        all,
        ends_at n.end.0 m (ap (λ (k : EntryNote). k.end.0) same),
      )
      | inr later ↦ omega (arith, all, counted n ms later)
    ]

one_at_most : (key : ℕ) (ns : List EntryNote) → AllPairs Below ns → count key ns ≤ 1
one_at_most key [] order = omega arith
one_at_most key (n ∷ ns) order =
    by (one_at_most key ns (behind Below n ns order)) (n.end.0 == key) refl
  where
    by : count key ns ≤ 1 → (b : Bool) → (n.end.0 == key) ≡ b → count key (n ∷ ns) ≤ 1
    by rest true is =
        let same : n.end.0 ≡ key = grind (arith, nat_tests) in
        let none = none_above key ns (λ m among.
        let up = ahead Below n ns order m among in omega (arith, up, same)) in
        omega (arith, sum_by-cons (ends_here key) n ns, at_most_one key n, none)
    by rest false is =
        omega (arith, sum_by-cons (ends_here key) n ns, at_test key n false is, rest)

-- notes in order, of which no two end at one key, end one above the other
ascend : (ns : List EntryNote) → AllPairs UpTo ns
    → ((n : EntryNote) → Contains ns n → count n.end.0 ns ≤ 1) → AllPairs Below ns
ascend [] order few = λ i j d l h. absurd (omega (arith, h))
ascend (n ∷ ns) order few =
    pairs_more n ns (λ m among.
    let up = ahead UpTo n ns order m among in
    let all = sum_by-cons (ends_here m.end.0) n ns in
    let one = few m (later_in n m ns among) in
    let there = counted m ns among in
    let apart : n.end.0 ≡ m.end.0 → ⊥ = λ same.
    omega (arith, all, one, there, ends_at m.end.0 n same) in
    below_by n.end.0 m.end.0 up apart)
    (ascend ns (behind UpTo n ns order) (λ m among.
    omega (arith, sum_by-cons (ends_here m.end.0) n ns, few m (later_in n m ns among))))
  where
    below_by : (a b : ℕ) → a ≤ b → (a ≡ b → ⊥) → a < b
    below_by a b le apart = omega (arith, le, apart)

-- ---- two lists of the same notes

same_notes : (xs ys : List EntryNote) → AllPairs Below xs → AllPairs Below ys
    → ((n : EntryNote) → Contains xs n → Contains ys n)
    → ((n : EntryNote) → Contains ys n → Contains xs n) → xs ≡ ys
same_notes [] [] ox oy to from = refl
same_notes [] (y ∷ ys) ox oy to from =
    absurd (omega (arith, (from y (first_in y ys)).1))
same_notes (x ∷ xs) [] ox oy to from = absurd (omega (arith, (to x (first_in x xs)).1))
same_notes (x ∷ xs) (y ∷ ys) ox oy to from =
    let tails = same_notes xs ys (behind Below x xs ox) (behind Below y ys oy)
    (λ n h. elim (first_or_later y n ys (to n (later_in x n xs h))) [
      | inl e ↦ absurd (omega (
        arith,
        ahead Below x xs ox n h,
        ap (λ (k : EntryNote). k.end.0) (same ∙ e),
      ))
      | inr r ↦ r
    ])
    (λ n h. elim (first_or_later x n xs (from n (later_in y n ys h))) [
      | inl e ↦ absurd (omega (
        arith,
        ahead Below y ys oy n h,
        ap (λ (k : EntryNote). k.end.0) (sym same ∙ e),
      ))
      | inr r ↦ r
    ]) in
    (λ i. same i ∷ tails i)
  where
    same : x ≡ y
    same = elim (first_or_later y x ys (to x (first_in x xs))) [
      | inl e ↦ sym e
      | inr hx ↦ elim (first_or_later x y xs (from y (first_in y ys))) [
        | inl e ↦ e
        | inr hy ↦ absurd (omega (arith, ahead Below x xs ox y hy, ahead Below y ys oy x hx))
      ]
    ]

-- ---- parted

module _ (upto : ℕ) (pending run left : List EntryNote) (one : IsParted upto pending run left)
    (run' left' : List EntryNote) (other : IsParted upto pending run' left') where
  among_both : (n : EntryNote) → Contains run n → Contains run' n
  among_both n among =
      let low = one.low n among in
      elim (Contains-append_cases run' left' n
      (Contains-permutation pending (run' ++ left') n other.all
      (Contains-permutation (run ++ left) pending n
      (IsPermutation-sym pending (run ++ left) one.all)
      (Contains-append_left run left n among)))) [
        | inl is ↦ is
        | inr above ↦ absurd (omega (arith, low, other.high n above))
      ]

  same_count : (key : ℕ) → key ≤ upto → count key run ≡ count key run'
  same_count key low =
      omega (
        arith,
        sum_by-IsPermutation (ends_here key) pending (run ++ left) one.all,
        sum_by-IsPermutation (ends_here key) pending (run' ++ left') other.all,
        sum_by-append (ends_here key) run left,
        sum_by-append (ends_here key) run' left',
        none_above key left (λ n among. omega (arith, low, one.high n among)),
        none_above key left' (λ n among. omega (arith, low, other.high n among)),
      )

  ascends : AllPairs Below run' → AllPairs Below run
  ascends order = ascend run one.in_order (λ n among.
      omega (arith, same_count n.end.0 (one.low n among), one_at_most n.end.0 run' order))

pub one_run : (upto : ℕ) (pending run left run' left' : List EntryNote)
    → IsParted upto pending run left → IsParted upto pending run' left' → AllPairs Below run'
    → run ≡ run'
one_run upto pending run left run' left' one other order =
    same_notes run run' (ascends upto pending run left one run' left' other order) order
    (among_both upto pending run left one run' left' other)
    (among_both upto pending run' left' other run left one)
