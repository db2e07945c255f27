-- Updates are counted one by one, each at its table.
use Rattle.std.proofs.Common.{
  ◌≡◌,
  ℕ,
  ◌+◌,
  ◌<◌,
  ◌≤◌,
  List,
  get_or,
  length,
  set,
  take,
  sym,
  ap,
  ◌∙◌,
  arith,
  get_or-set_same,
  get_or-set_other,
}
use Rattle.std.specs.List.{count_by}
use Rattle.std.proofs.lemmas.Bool.{eq-eqb, ne_eqb}
use Rattle.std.proofs.lemmas.List.{length-take-le}
use Rattle.std.proofs.lemmas.List.Sums.{
  count_by-le-length,
  count_by_more_no,
  count_by_more_yes,
}
use mathlib.Core.Logic.{dite}
use native.Mathlib.Decide.{ℕ_discrete}
use Rattle.clog_spec.specs.Sizes.{most_tables}
use Rattle.clog_mutation.specs.declared.mutation.Update.{Update}
use Rattle.clog_applied.specs.Flushed.{is_update_of}
use Rattle.clog_shares.specs.Tallied.{HasCounts}

-- how many of the first updates are of a table
abbrev among : ℕ → ℕ → List Update → ℕ
among t i us = count_by (is_update_of (record { 0 = t })) (take i us)

module _ (us : List Update) (i : ℕ) (u : Update) (inside : i < length us)
    (is : u ≡ get_or us i u) where
  own : (t : ℕ) → t ≡ u.table.0 → among t (i + 1) us ≡ among t i us + 1
  own t same = count_by_more_yes (is_update_of (record { 0 = t })) us i u inside
      (eq-eqb (get_or us i u).table.0 t
      (sym (same ∙ ap (λ (v : Update). v.table.0) is)))

  other : (t : ℕ) → (t ≡ u.table.0 → ⊥) → among t (i + 1) us ≡ among t i us
  other t apart = count_by_more_no (is_update_of (record { 0 = t })) us i u inside
      (ne_eqb (get_or us i u).table.0 t (λ (same : (get_or us i u).table.0 ≡ t).
      apart (sym (ap (λ (v : Update). v.table.0) is ∙ same))))

  module _ (counts : List ℕ) (at : ℕ) (at_is : at ≡ u.table.0) (low : at < most_tables)
      (has : HasCounts (take i us) counts) where
    -- there are no more than updates that are passed
    pub few : get_or counts at 0 ≤ i
    few = let is_count = has at low in
        let some = count_by-le-length (is_update_of (record { 0 = at })) (take i us) in
        let long = length-take-le i us (omega (arith, inside)) in
        omega (arith, is_count, some, long)

    pub one_more : length counts ≡ most_tables
        → HasCounts (take (i + 1) us) (set counts at (get_or counts at 0 + 1))
    one_more all = λ t there. dite (ℕ_discrete t at)
        (λ same. ap (λ (k : ℕ). get_or (set counts at (get_or counts at 0 + 1)) k 0) same
        ∙ get_or-set_same counts at (get_or counts at 0 + 1) 0 (omega (arith, all, low))
        ∙ ap (λ (k : ℕ). k + 1) (has at low)
        ∙ sym (own at at_is)
        ∙ ap (λ (k : ℕ). among k (i + 1) us) (sym same))
        (λ apart. get_or-set_other counts at t (get_or counts at 0 + 1) 0 apart
        ∙ has t there ∙ sym (other t (λ same. apart (same ∙ sym at_is))))
