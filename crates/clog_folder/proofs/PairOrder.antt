-- The order of pairs of numbers, by the first and then by the second: of places of segments, and of
-- positions.
use Rattle.std.proofs.Common.{
  ◌≡◌,
  ◌⊎◌,
  ℕ,
  ◌<◌,
  ◌≤◌,
  List,
  [],
  ◌∷◌,
  ◌++◌,
  map,
  false,
  refl,
  sym,
  ap,
  ◌∙◌,
  inl,
  inr,
  arith,
}
use Rattle.std.specs.List.{AllByRecursion}
use Rattle.std.specs.List.Sorted.{IsStrictlySortedBy}
use Rattle.std.specs.declared.cmp.Ordering.{Ordering}
use Rattle.std.specs.declared.cmp.Ordering.TheVariants.{Less, Equal, Greater}
use Rattle.std.specs.Ordering.{nat_cmp, ordering_then, is_lt}
use Rattle.std.specs.Cmp.{nat_cmp_is}
use Rattle.std.proofs.lemmas.Cmp.{ranked}
use Rattle.clog_crash.specs.Counts.{LoggedMutation, position_cmp}

-- a before b, by the first numbers and then by the second
abbrev pub IsLess : ℕ → ℕ → ℕ → ℕ → Type 0
IsLess a b a' b' = (a < a') ⊎ ((a ≡ a') × (b < b'))

pub pair_less : (a b a' b' : ℕ) → IsLess a b a' b'
    → ordering_then (nat_cmp a a') (nat_cmp b b') ≡ Less
pair_less a b a' b' (inl less) =
    ap (λ (o : Ordering). ordering_then o (nat_cmp b b')) (sym (nat_cmp_is a a' Less less))
pair_less a b a' b' (inr level) =
    ap (λ (o : Ordering). ordering_then o (nat_cmp b b')) (sym (nat_cmp_is a a' Equal level.0))
    ∙ sym (nat_cmp_is b b' Less level.1)

less_by : (a b a' b' : ℕ) (o : Ordering) → o ≡ nat_cmp a a'
    → ordering_then o (nat_cmp b b') ≡ Less → IsLess a b a' b'
less_by a b a' b' Less is less = inl (ranked a a' Less is)
less_by a b a' b' Equal is less = inr (ranked a a' Equal is, ranked b b' Less (sym less))
less_by a b a' b' Greater is less = cc

pub less_pair : (a b a' b' : ℕ) → ordering_then (nat_cmp a a') (nat_cmp b b') ≡ Less
    → IsLess a b a' b'
less_pair a b a' b' less = less_by a b a' b' (nat_cmp a a') refl less

not_less_by : (a b a' b' : ℕ) (o : Ordering) → o ≡ nat_cmp a a'
    → is_lt (ordering_then o (nat_cmp b b')) ≡ false → a' ≤ a
not_less_by a b a' b' Less is not = cc
not_less_by a b a' b' Equal is not = omega (arith, ranked a a' Equal is)
not_less_by a b a' b' Greater is not = omega (arith, ranked a a' Greater is)

-- where a pair is not below another, its first number is not either
pub not_less : (a b a' b' : ℕ) → is_lt (ordering_then (nat_cmp a a') (nat_cmp b b')) ≡ false
    → a' ≤ a
not_less a b a' b' not = not_less_by a b a' b' (nat_cmp a a') refl not

-- ---- logs

abbrev pub AreOrdered : List LoggedMutation → Type 0
AreOrdered log = IsStrictlySortedBy position_cmp (map (λ (l : LoggedMutation). l.at) log)

abbrev pub StandsBefore : LoggedMutation → LoggedMutation → Type 0
StandsBefore a b = IsLess a.at.id a.at.offset b.at.id b.at.offset

below_all : (a : LoggedMutation) (log : List LoggedMutation)
    → AllByRecursion (StandsBefore a) log
    → AllByRecursion (λ p. position_cmp a.at p ≡ Less) (map (λ (l : LoggedMutation). l.at) log)
below_all a [] all = tt
below_all a (l ∷ log) all =
    (pair_less a.at.id a.at.offset l.at.id l.at.offset all.0, below_all a log all.1)

pub nothing_ordered : AreOrdered []
unfolding IsStrictlySortedBy
nothing_ordered = tt

-- one in front of all
pub ordered_first : (a : LoggedMutation) (log : List LoggedMutation)
    → AllByRecursion (StandsBefore a) log → AreOrdered log → AreOrdered (a ∷ log)
unfolding IsStrictlySortedBy
ordered_first a log all ordered = (below_all a log all, ordered)

first_of_ordered : (a : LoggedMutation) (log : List LoggedMutation) → AreOrdered (a ∷ log)
    → AllByRecursion (λ p. position_cmp a.at p ≡ Less) (map (λ (l : LoggedMutation). l.at) log)
    × AreOrdered log
unfolding IsStrictlySortedBy
first_of_ordered a log ordered = ordered

all_in_front : (a : LoggedMutation) (front back : List LoggedMutation)
    → AllByRecursion (λ p. position_cmp a.at p ≡ Less) (map (λ (l : LoggedMutation). l.at) front)
    → AllByRecursion (StandsBefore a) back
    → AllByRecursion (StandsBefore a) (front ++ back)
all_in_front a [] back all more = more
all_in_front a (l ∷ front) back all more =
    (less_pair a.at.id a.at.offset l.at.id l.at.offset all.0, all_in_front a front back all.1 more)

-- one log behind another
pub ordered_both : (front back : List LoggedMutation) → AreOrdered front → AreOrdered back
    → AllByRecursion (λ a. AllByRecursion (StandsBefore a) back) front
    → AreOrdered (front ++ back)
ordered_both [] back ordered behind all = behind
ordered_both (a ∷ front) back ordered behind all =
    let parts = first_of_ordered a front ordered in
    ordered_first a (front ++ back) (all_in_front a front back parts.0 all.0)
    (ordered_both front back parts.1 behind all.1)
