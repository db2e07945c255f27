-- What is picked of lists one behind another, and where all is picked.
use Rattle.std.proofs.Common.{◌≡◌, List, [], ◌∷◌, ◌++◌, Contains, refl, ap, ◌∙◌, inl, inr}
use Rattle.clog_base.proofs.Members.{further, here}
use Rattle.clog_folder.specs.Listing.{Picks}

-- what is picked of a list and one behind it
pub picks_split : {A : Type 0} (P : A → Type 0) (us vs picked : List A) → Picks P (us ++ vs) picked
    → (left right : List A) × (picked ≡ left ++ right) × Picks P us left × Picks P vs right
picks_split P [] vs picked is = ([], picked, refl, refl, is)
picks_split P (u ∷ us) vs picked (inl has) =
    let more = picks_split P us vs has.1.0 has.1.2 in (
      u ∷ more.0,
      more.1,
      has.1.1 ∙ ap (λ l. u ∷ l) more.2,
      inl (has.0, (more.0, refl, more.3)),
      more.4,
    )
picks_split P (u ∷ us) vs picked (inr lacks) =
    let more = picks_split P us vs picked lacks.1 in (
      more.0,
      more.1,
      more.2,
      inr (lacks.0, more.3),
      more.4,
    )

-- where all have P, all is picked
pub picks_whole : {A : Type 0} (P : A → Type 0) (xs picked : List A)
    → ((x : A) → Contains xs x → P x) → Picks P xs picked → picked ≡ xs
picks_whole P [] picked all none = none
picks_whole P (x ∷ xs) picked all (inl has) =
    has.1.1 ∙ ap (λ l. x ∷ l)
    (picks_whole P xs has.1.0 (λ y there. all y (further x xs y there)) has.1.2)
picks_whole P (x ∷ xs) picked all (inr lacks) = absurd (lacks.0 (all x (here x xs)))
