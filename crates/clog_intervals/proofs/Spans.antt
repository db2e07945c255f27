-- The ends of positions of one segment.
use Rattle.std.proofs.Common.{
  inl,
  inr,
  List,
  [],
  ◌∷◌,
  ◌++◌,
  Option,
  Some,
  None,
  sym,
  subst,
  refl,
  zero,
  suc,
  lit<,
  arith,
  ◌∙◌,
}
use Rattle.std.specs.Prelude.{All, Contains}
use Rattle.std.proofs.lemmas.List.Elements.{
  All-append,
  Contains-append_left,
  Contains-append_right,
}
use Rattle.clog_base.specs.declared.position.Position.{Position}
use Rattle.clog_intervals.specs.Hulls.{IsBetween, IsSpan, IsHull, IsWidened}

at_end : (positions : List Position) (at : Position) → Contains (positions ++ at ∷ []) at
at_end positions at = Contains-append_right positions (at ∷ []) at (zero, lit< tt, refl)

kept : (positions : List Position) (at p : Position) → Contains positions p
    → Contains (positions ++ at ∷ []) p
kept positions at p h = Contains-append_left positions (at ∷ []) p h

between_wider : (a b c d p : Position) → IsBetween c d a → IsBetween c d b → IsBetween a b p
    → IsBetween c d p
between_wider a b c d p from upto h = record {
  segment = h.segment ∙ from.segment;
  from = omega (arith, from.from, h.from);
  upto = omega (arith, upto.upto, h.upto);
}

one_is : (a b at : Position) → IsBetween a b at → All (IsBetween a b) (at ∷ [])
one_is a b at h zero d l = h
one_is a b at h (suc k) d l = absurd (omega arith)

pub widened_spans : (old : Option (Position × Position)) (at : Position)
    (wider : Position × Position) (positions : List Position) → IsWidened old at wider
    → IsHull old positions → IsSpan wider.0 wider.1 (positions ++ at ∷ [])
widened_spans None at wider positions w h =
    let itself : IsBetween at at at = record
    { segment = refl; from = omega arith; upto = omega arith } in
    let alone : IsSpan at at ([] ++ at ∷ []) = record {
      has_least = at_end [] at;
      has_greatest = at_end [] at;
      between = one_is at at at itself;
    } in
    subst (λ (l : List Position). IsSpan wider.0 wider.1 (l ++ at ∷ [])) (sym h)
    (subst (λ (e : Position × Position). IsSpan e.0 e.1 ([] ++ at ∷ [])) (sym w) alone)
widened_spans (Some ends) at wider positions w h = record {
  has_least = elim (w.lower) [
    | inl e ↦ subst (Contains (positions ++ at ∷ [])) (sym e) (kept positions at ends.0 h.has_least)
    | inr e ↦ subst (Contains (positions ++ at ∷ [])) (sym e) (at_end positions at)
  ];
  has_greatest = elim (w.upper) [
    | inl e ↦ subst (Contains (positions ++ at ∷ [])) (sym e)
        (kept positions at ends.1 h.has_greatest)
    | inr e ↦ subst (Contains (positions ++ at ∷ [])) (sym e) (at_end positions at)
  ];
  between = All-append (IsBetween wider.0 wider.1) positions (at ∷ [])
      (λ k d l. between_wider ends.0 ends.1 wider.0 wider.1 _ w.least_between w.greatest_between
      (h.between k d l))
      (one_is wider.0 wider.1 at w.at_between);
}
