-- What is picked of lists, one behind another.
use Rattle.std.proofs.Common.{List, [], ◌∷◌, ◌++◌, Contains, sym, ap, subst, inl, inr}
use Rattle.clog_base.proofs.Members.{first_or_further, further, here, nothing_there}
use Rattle.clog_folder.specs.Listing.{Picks}

-- ---- picking

pub picks_both : {A : Type 0} (P : A → Type 0) (xs ys picked more : List A)
    → Picks P xs picked → Picks P ys more → Picks P (xs ++ ys) (picked ++ more)
picks_both P [] ys picked more first second =
    subst (λ l. Picks P ys (l ++ more)) (sym first) second
picks_both P (x ∷ xs) ys picked more (inl has) second = inl (
  has.0,
  (
    has.1.0 ++ more,
    ap (λ l. l ++ more) has.1.1,
    picks_both P xs ys has.1.0 more has.1.2 second,
  ),
)
picks_both P (x ∷ xs) ys picked more (inr has) second =
    inr (has.0, picks_both P xs ys picked more has.1 second)

-- what is picked has P, and is of the list
pub picks_have : {A : Type 0} (P : A → Type 0) (xs picked : List A) (x : A) → Picks P xs picked
    → Contains picked x → P x × Contains xs x
picks_have P [] picked x none there =
    absurd (nothing_there x (subst (λ l. Contains l x) none there))
picks_have P (y ∷ xs) picked x (inl has) there =
    elim (first_or_further y has.1.0 x (subst (λ l. Contains l x) has.1.1 there)) [
      | inl same ↦ (subst P same has.0, subst (Contains (y ∷ xs)) same (here y xs))
      | inr more ↦
          let rest = picks_have P xs has.1.0 x has.1.2 more in
          (rest.0, further y xs x rest.1)
    ]
picks_have P (y ∷ xs) picked x (inr has) there =
    let rest = picks_have P xs picked x has.1 there in (rest.0, further y xs x rest.1)

-- ---- entry by entry
