-- Lines and their numbers, and what follows where each writer has logged its share.
use Rattle.std.proofs.Common.{
  ◌≡◌,
  ℕ,
  ◌+◌,
  ◌<◌,
  ◌≤◌,
  ◌%◌,
  inl,
  inr,
  List,
  [],
  ◌∷◌,
  length,
  Bool,
  true,
  false,
  refl,
  sym,
  ◌∙◌,
  ap,
  subst,
  arith,
}
use Rattle.std.specs.Prelude.{Contains, ◌==◌}
use Rattle.std.specs.List.{filter, count_by}
use Rattle.std.proofs.lemmas.Bool.{cases_eq}
use Rattle.std.proofs.lemmas.Bool.Decides.{nat_tests}
use Rattle.clog_base.proofs.Members.{
  first_or_further,
  from_map,
  further,
  here,
  in_map,
  nothing_there,
}
use Rattle.clog_mutation.specs.declared.mutation.Mutation.{Mutation}
use Rattle.clog_applied.specs.History.{
  HoldsShares,
  Line,
  LoggedLine,
  is_by,
  is_for,
  is_line,
  line_of,
  numbered,
  share_of,
  written_by,
}
use Rattle.clog_applied.proofs.Lists.{
  count_of_filtered,
  count_of_map,
  counts_none,
  counts_one,
  from_filter,
  in_filter,
}

-- ---- numbers

abbrev is_numbered : ℕ → Line → Bool
is_numbered n line = line.number == n

none_below : (n k : ℕ) (ms : List Mutation) → n < k
    → count_by (is_numbered n) (numbered k ms) ≡ 0
none_below n k [] low = refl
none_below n k (m ∷ ms) low =
    let out : (k == n) ≡ false = grind (arith, nat_tests, low) in
    counts_none (is_numbered n) (record { number = k; mutation = m }) (numbered (k + 1) ms) out
    ∙ none_below n (k + 1) ms (omega (arith, low))

one_numbered : (n k : ℕ) (ms : List Mutation) → k ≤ n → n < k + length ms
    → count_by (is_numbered n) (numbered k ms) ≡ 1
one_numbered n k [] low high = absurd (omega (arith, low, high))
one_numbered n k (m ∷ ms) low high = elim (cases_eq k n) [
  | inl same ↦
      let test : (k == n) ≡ true = grind (arith, nat_tests, same) in
      counts_one (is_numbered n) (record { number = k; mutation = m }) (numbered (k + 1) ms) test
      ∙ ap (λ (c : ℕ). 1 + c) (none_below n (k + 1) ms (omega (arith, same)))
  | inr other ↦
      let out : (k == n) ≡ false = grind (arith, nat_tests, other) in
      counts_none (is_numbered n) (record { number = k; mutation = m }) (numbered (k + 1) ms) out
      ∙ one_numbered n (k + 1) ms (omega (arith, low, other)) (omega (arith, high))
]

-- each mutation is that of a line, and each line's is one of them
pub a_line : (n : ℕ) (ms : List Mutation) (m : Mutation) → Contains ms m
    → (l : Line) × Contains (numbered n ms) l × (l.mutation ≡ m)
a_line n [] m h = absurd (nothing_there m h)
a_line n (x ∷ ms) m h = elim (first_or_further x ms m h) [
  | inl same ↦ (
    record { number = n; mutation = x },
    here (record { number = n; mutation = x }) (numbered (n + 1) ms),
    same,
  )
  | inr more ↦ let rest = a_line (n + 1) ms m more in (
    rest.0,
    further (record { number = n; mutation = x }) (numbered (n + 1) ms) rest.0 rest.1,
    rest.2,
  )
]

pub of_a_line : (n : ℕ) (ms : List Mutation) (l : Line) → Contains (numbered n ms) l
    → Contains ms l.mutation
of_a_line n [] l h = absurd (nothing_there l h)
of_a_line n (x ∷ ms) l h =
    elim (first_or_further (record { number = n; mutation = x }) (numbered (n + 1) ms) l h) [
      | inl same ↦ subst (λ (k : Line). Contains (x ∷ ms) k.mutation) same (here x ms)
      | inr more ↦ further x ms l.mutation (of_a_line (n + 1) ms l more)
    ]

-- ---- shares

module _ (writers : ℕ) (some : 0 < writers) (mutations : List Mutation)
    (history : List LoggedLine)
    (known : (w : LoggedLine) → Contains history w → w.writer < writers)
    (shares : (writer : ℕ) → writer < writers
    → written_by writer history ≡ share_of writers writer mutations) where
  in_share : (w : LoggedLine) → Contains history w
      → Contains (share_of writers w.writer mutations) (line_of w)
  in_share w h =
      let test : (w.writer == w.writer) ≡ true = grind (arith, nat_tests) in
      subst (λ (l : List Line). Contains l (line_of w)) (shares w.writer (known w h))
      (in_map line_of (filter (is_by w.writer) history) w
      (in_filter (is_by w.writer) history w h test))

  pub in_lines : (w : LoggedLine) → Contains history w
      → Contains (numbered 1 mutations) (line_of w)
  in_lines w h =
      (from_filter (is_for writers w.writer) (numbered 1 mutations) (line_of w) (in_share w h)).0

  -- each line is logged
  pub line_logged : (l : Line) → Contains (numbered 1 mutations) l
      → (w : LoggedLine) × Contains history w × (line_of w ≡ l)
  line_logged l h =
      let v = l.number % writers in
      let few : v < writers = grind (arith, some) in
      let test : (v == v) ≡ true = grind (arith, nat_tests) in
      let found = from_map line_of (filter (is_by v) history) l
      (subst (λ (ls : List Line). Contains ls l) (sym (shares v few))
      (in_filter (is_for writers v) (numbered 1 mutations) l h test)) in (
        found.0,
        (from_filter (is_by v) history found.0 found.1).0,
        found.2,
      )

  -- its writer is what its number leaves
  by_rest : (w : LoggedLine) → Contains history w → (w.number % writers == w.writer) ≡ true
  by_rest w h =
      (from_filter (is_for writers w.writer) (numbered 1 mutations) (line_of w) (in_share w h)).1

  once : (n : ℕ) → 1 ≤ n → n ≤ length mutations → count_by (is_line n) history ≡ 1
  once n low high =
      let v = n % writers in
      let few : v < writers = grind (arith, some) in
      sym (count_of_filtered (is_line n) (is_by v) history (λ w h is.
      let line : w.number ≡ n = grind (arith, nat_tests, is) in
      let rest : w.number % writers ≡ w.writer = grind (arith, nat_tests, by_rest w h) in
      grind (arith, nat_tests, sym rest ∙ ap (λ (x : ℕ). x % writers) line)))
      ∙ sym (count_of_map line_of (is_numbered n) (filter (is_by v) history))
      ∙ ap (count_by (is_numbered n)) (shares v few)
      ∙ count_of_filtered (is_numbered n) (is_for writers v) (numbered 1 mutations) (λ l h is.
      let line : l.number ≡ n = grind (arith, nat_tests, is) in
      grind (arith, nat_tests, ap (λ (x : ℕ). x % writers) line))
      ∙ one_numbered n 1 mutations low (omega (arith, high))

  pub holds_shares : HoldsShares writers mutations history
  holds_shares = record { known = known; shares = shares; once = once; no_other = in_lines }
