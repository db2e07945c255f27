-- Elements of lists, and lists in order, when one element is put in or each is changed.
use Rattle.std.proofs.Common.{
  ◌≡◌,
  ℕ,
  zero,
  suc,
  ◌+◌,
  ◌-◌,
  ◌<◌,
  ◌≤◌,
  List,
  [],
  ◌∷◌,
  length,
  get_or,
  map,
  take,
  drop,
  refl,
  sym,
  ap,
  ◌∙◌,
  subst,
  arith,
  take-append-drop,
  ◌⊎◌,
}
use Rattle.std.specs.List.{Contains, AllPairs, insert}
use Rattle.std.proofs.lemmas.List.{get_or-map, length-map}
use Rattle.std.proofs.lemmas.List.Edits.{
  length-insert,
  get_or-insert_below,
  get_or-insert_at,
  get_or-insert_above,
}
use Rattle.std.proofs.lemmas.List.Elements.{
  Contains-append_left,
  Contains-append_right,
  Contains-append_cases,
  Contains-push_cases,
}
use mathlib.Core.Logic.{dite, inl, inr}
use native.Mathlib.Decide.{ℕ_discrete, dec_lt}

-- a list in order, with one element put in
pub order_insert : {X : Type 0} (R : X → X → Type 0) (xs : List X) (i : ℕ) (y : X)
    → i ≤ length xs → AllPairs R xs
    → ((k : ℕ) (d : X) → k < i → R (get_or xs k d) y)
    → ((k : ℕ) (d : X) → i ≤ k → k < length xs → R y (get_or xs k d)) → AllPairs R (insert xs i y)
order_insert {X} R xs i y inside order below above a b d l h =
    let long = length-insert xs i y inside in dite (dec_lt b i)
    (λ b_below. rw (get_or-insert_below xs i y d a (omega arith) inside)
    (rw (get_or-insert_below xs i y d b b_below inside) (order a b d l (omega arith))))
    (λ not_below. dite (ℕ_discrete b i)
    (λ at. subst (λ k. R (get_or (insert xs i y) a d) (get_or (insert xs i y) k d)) (sym at)
    (rw (get_or-insert_at xs i y d inside)
    (rw (get_or-insert_below xs i y d a (omega arith) inside) (below a d (omega arith)))))
    (λ not_at. behind (b - 1) (omega arith) (omega arith)))
  where
    -- the later one stands behind the place
    behind : (k : ℕ) → b ≡ k + 1 → i ≤ k → R (get_or (insert xs i y) a d) (get_or
        (insert xs i y) b d)
    behind k is past = let long = length-insert xs i y inside in
        subst (λ n. R (get_or (insert xs i y) a d) (get_or (insert xs i y) n d)) (sym is)
        (rw (get_or-insert_above xs i y d k past inside)
        (dite (dec_lt a i)
        (λ a_below. rw (get_or-insert_below xs i y d a a_below inside) (order a k d (omega arith)
        (omega arith)))
        (λ not_below. dite (ℕ_discrete a i)
        (λ at. subst (λ n. R (get_or (insert xs i y) n d) (get_or xs k d)) (sym at)
        (rw (get_or-insert_at xs i y d inside) (above k d past (omega arith))))
        (λ not_at. earlier (a - 1) (omega arith) (omega arith) k (omega arith) (omega arith)))))
      where
        earlier : (j : ℕ) → a ≡ j + 1 → i ≤ j → (k : ℕ) → j < k → k < length xs
            → R (get_or (insert xs i y) a d) (get_or xs k d)
        earlier j is past k l h = subst (λ n. R (get_or (insert xs i y) n d) (get_or xs k d))
            (sym is)
            (rw (get_or-insert_above xs i y d j past inside) (order j k d l h))

-- an element of a list with one more put in

pub insert_old : {X : Type 0} (xs : List X) (i : ℕ) (y x : X) → Contains xs x
    → Contains (insert xs i y) x
insert_old xs i y x c = elim (Contains-append_cases (take i xs) (drop i xs) x
    (subst (λ l. Contains l x) (sym (take-append-drop i xs)) c)) [
      | inl a ↦ Contains-append_left (take i xs) (y ∷ drop i xs) x a
      | inr b ↦ Contains-append_right (take i xs) (y ∷ drop i xs) x
          (Contains-append_right (y ∷ []) (drop i xs) x b)
    ]

pub insert_new : {X : Type 0} (xs : List X) (i : ℕ) (y : X) → Contains (insert xs i y) y
insert_new xs i y = Contains-append_right (take i xs) (y ∷ drop i xs) y (zero, omega arith, refl)

pub insert_cases : {X : Type 0} (xs : List X) (i : ℕ) (y x : X) → Contains (insert xs i y) x
    → Contains xs x ⊎ (y ≡ x)
insert_cases xs i y x c = elim (Contains-append_cases (take i xs) (y ∷ drop i xs) x c) [
  | inl a ↦ inl (subst (λ l. Contains l x) (take-append-drop i xs)
      (Contains-append_left (take i xs) (drop i xs) x a))
  | inr b ↦ elim (Contains-append_cases (y ∷ []) (drop i xs) x b) [
    | inl p ↦ elim (Contains-push_cases [] y x p) [
      | inl n ↦ absurd (let l = n.1 in
          omega arith)
      | inr e ↦ inr e
    ]
    | inr q ↦ inl (subst (λ l. Contains l x) (take-append-drop i xs)
        (Contains-append_right (take i xs) (drop i xs) x q))
  ]
]

-- an element of a list each of whose elements was changed

pub map_old : {X Y : Type 0} (f : X → Y) (xs : List X) (x : X) → Contains xs x
    → Contains (map f xs) (f x)
map_old f xs x c = (
  c.0,
  subst (λ n. c.0 < n) (sym (length-map xs f)) c.1,
  get_or-map f xs c.0 x (f x) c.1 ∙ ap f c.2,
)

pub map_from : {X Y : Type 0} (f : X → Y) (xs : List X) (y : Y) → Contains (map f xs) y
    → (x : X) × Contains xs x × (f x ≡ y)
map_from f [] y c = absurd (let l = c.1 in omega arith)
map_from f (x ∷ xs) y (zero, inside, is) = (x, (zero, omega arith, refl), is)
map_from f (x ∷ xs) y (suc k, inside, is) =
    let r = map_from f xs y (k, omega arith, is) in
    (r.0, (suc r.1.0, (let l = r.1.1 in omega arith), r.1.2), r.2)
