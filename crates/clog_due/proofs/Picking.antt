-- Of ascending numbers those that pass a test, one after another.
use Rattle.std.proofs.Common.{◌≡◌, ℕ, List, [], ◌∷◌, ◌++◌, sym, subst, inl, inr, append_assoc}
use Rattle.std.specs.Prelude.{◌⊎◌, Contains}
use Rattle.std.specs.declared.cmp.Ordering.TheVariants.{Less}
use Rattle.std.specs.List.{AllByRecursion}
use Rattle.std.specs.List.Sorted.{IsStrictlySortedBy}
use Rattle.std.specs.Ordering.{nat_cmp}
use Rattle.std.proofs.lemmas.List.{append-nil}
use Rattle.std.proofs.lemmas.List.Elements.{
  Contains-append_left,
  Contains-push,
  Contains-push_cases,
}
use Rattle.std.proofs.lemmas.List.Kept.{AllPairs-from_increasing}
use Rattle.std.proofs.lemmas.Map.Keys.{IsStrictlyIncreasing-from_sorted}
use Rattle.clog_base.proofs.Members.{first_or_further, further, here as at_front, nothing_there}
use Rattle.clog_due.specs.Dropping.{ArePicked, PicksIf}

-- ---- one is left out

all_without : (P : ℕ → Type 0) (xs : List ℕ) (y : ℕ) (ys : List ℕ)
    → AllByRecursion P (xs ++ y ∷ ys) → AllByRecursion P (xs ++ ys)
all_without P [] y ys all = all.1
all_without P (x ∷ xs) y ys all = (all.0, all_without P xs y ys all.1)

sorted_without : (xs : List ℕ) (y : ℕ) (ys : List ℕ) → IsStrictlySortedBy nat_cmp (xs ++ y ∷ ys)
    → IsStrictlySortedBy nat_cmp (xs ++ ys)
unfolding IsStrictlySortedBy
sorted_without [] y ys sorted = sorted.1
sorted_without (x ∷ xs) y ys sorted =
    (all_without (λ z. nat_cmp x z ≡ Less) xs y ys sorted.0, sorted_without xs y ys sorted.1)

-- ---- on the way

-- Of the numbers seen those that have P are picked; the rest is to be seen.
pub record IsPicking (P : ℕ → Type 0) (all rest picked : List ℕ) : Type 0 where
  pub sorted : IsStrictlySortedBy nat_cmp (picked ++ rest)
  pub from : (o : ℕ) → Contains picked o → Contains all o × P o
  pub left : (o : ℕ) → Contains rest o → Contains all o
  pub seen : (o : ℕ) → Contains all o → P o → Contains picked o ⊎ Contains rest o

pub picks_more : (P : ℕ → Type 0) (all rest next : List ℕ) (o : ℕ) (before now : List ℕ)
    → IsPicking P all rest before → rest ≡ o ∷ next → PicksIf (P o) o before now
    → IsPicking P all next now
picks_more P all rest next o before now is rest_is picks =
    let here : IsPicking P all (o ∷ next) before =
    subst (λ (l : List ℕ). IsPicking P all l before) rest_is is in
    elim picks [
      | inl taken ↦ subst (IsPicking P all next) (sym taken.1) (record {
        sorted = subst (IsStrictlySortedBy nat_cmp) (sym (append_assoc before (o ∷ []) next))
            here.sorted;
        from = λ p there. elim (Contains-push_cases before o p there) [
          | inl old ↦ here.from p old
          | inr same ↦ subst (λ (k : ℕ). Contains all k × P k) same
              (here.left o (at_front o next), taken.0)
        ];
        left = λ p there. here.left p (further o next p there);
        seen = λ p there has. elim (here.seen p there has) [
          | inl old ↦ inl (Contains-append_left before (o ∷ []) p old)
          | inr to_come ↦ elim (first_or_further o next p to_come) [
            | inl same ↦ inl (subst (Contains (before ++ o ∷ [])) same (Contains-push before o))
            | inr later ↦ inr later
          ]
        ];
      })
      | inr left_out ↦ subst (IsPicking P all next) (sym left_out.1) (record {
        sorted = sorted_without before o next here.sorted;
        from = here.from;
        left = λ p there. here.left p (further o next p there);
        seen = λ p there has. elim (here.seen p there has) [
          | inl old ↦ inl old
          | inr to_come ↦ elim (first_or_further o next p to_come) [
            | inl same ↦ absurd (left_out.0 (subst P (sym same) has))
            | inr later ↦ inr later
          ]
        ];
      })
    ]

pub all_picked : (P : ℕ → Type 0) (all rest picked : List ℕ) → IsPicking P all rest picked
    → rest ≡ [] → ArePicked P all picked
all_picked P all rest picked is none =
    let here : IsPicking P all [] picked =
    subst (λ (l : List ℕ). IsPicking P all l picked) none is in
    record {
      ascending = AllPairs-from_increasing picked (IsStrictlyIncreasing-from_sorted picked
          (subst (IsStrictlySortedBy nat_cmp) (append-nil picked) here.sorted));
      exact = λ o. (
        here.from o,
        λ has. elim (here.seen o has.0 has.1) [
          | inl there ↦ there
          | inr nothing ↦ absurd (nothing_there o nothing)
        ],
      );
    }
