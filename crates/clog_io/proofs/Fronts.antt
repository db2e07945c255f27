-- Bytes that were copied from the front of what is left.
use Rattle.std.proofs.Common.{
  ◌≡◌,
  ℕ,
  ◌+◌,
  ◌-◌,
  ◌≤◌,
  List,
  [],
  ◌++◌,
  length,
  take,
  drop,
  arith,
  ap,
  ◌∙◌,
  sym,
  length-drop,
}
use Rattle.std.proofs.lemmas.List.{
  take-append-drop,
  take-append-le,
  length-take-le,
  drop-drop,
  drop_all,
  take_all,
}

-- a room whose front is the next n bytes of xs, from at on: what is left is these and the rest
pub front_taken : (xs part room : List ℕ) (at n : ℕ) → part ≡ take (at + n - at) (drop at xs)
    → n ≤ length xs - at → drop at xs ≡ take n (part ++ drop n room) ++ drop (at + n) xs
front_taken xs part room at n is few =
    let count_is : at + n - at ≡ n = omega arith in
    let within : n ≤ length (drop at xs) = omega (arith, length-drop at xs) in
    let part_is : part ≡ take n (drop at xs) = is ∙ ap (λ k. take k (drop at xs)) count_is in
    let len : length part ≡ n = ap length part_is ∙ length-take-le n (drop at xs) within in
    let fits : n ≤ length part = omega arith in
    let short : length part ≤ n = omega arith in
    let front : take n (drop at xs) ≡ take n (part ++ drop n room) =
    sym part_is ∙ sym (take_all n part short) ∙ sym (take-append-le n part (drop n room) fits) in
    sym (take-append-drop n (drop at xs))
    ∙ ap (λ l. l ++ drop n (drop at xs)) front
    ∙ ap (λ l. take n (part ++ drop n room) ++ l) (drop-drop n at xs)

pub none_left : (xs : List ℕ) (at n : ℕ) → length xs ≤ at → drop (at + n) xs ≡ []
none_left xs at n at_end = drop_all (at + n) xs (omega (arith))
