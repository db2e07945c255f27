-- The appends among changes.
use Rattle.std.proofs.Common.{◌≡◌, ℕ, inl, inr, List, [], ◌∷◌, subst}
use Rattle.std.specs.Prelude.{Contains}
use Rattle.clog_base.proofs.Members.{first_or_further, further, here, nothing_there}
use Rattle.clog_disk.specs.declared.change.Change.{Change}
use Rattle.clog_disk.specs.declared.change.Change.TheVariants as change
use Rattle.clog_crash.specs.Grown.{appends_of}

-- an append is among the appends
pub in_appends : (cs : List Change) (name bytes : List ℕ) → Contains cs (change.Append name bytes)
    → Contains (appends_of cs) (name, bytes)
in_appends [] name bytes h = absurd (nothing_there (change.Append name bytes) h)
in_appends (change.Append n b ∷ cs) name bytes h =
    elim (first_or_further (change.Append n b) cs (change.Append name bytes) h) [
      | inl same ↦
          let names : n ≡ name = cc in
          let all : b ≡ bytes = cc in
          subst (λ (x : List ℕ). Contains ((n, b) ∷ appends_of cs) (x, bytes)) names
          (subst (λ (x : List ℕ). Contains ((n, b) ∷ appends_of cs) (n, x)) all
          (here (n, b) (appends_of cs)))
      | inr more ↦
          further (n, b) (appends_of cs) (name, bytes) (in_appends cs name bytes more)
    ]
in_appends (change.Publish n b ∷ cs) name bytes h =
    elim (first_or_further (change.Publish n b) cs (change.Append name bytes) h) [
      | inl same ↦ absurd cc
      | inr more ↦ in_appends cs name bytes more
    ]
in_appends (change.Link old new ∷ cs) name bytes h =
    elim (first_or_further (change.Link old new) cs (change.Append name bytes) h) [
      | inl same ↦ absurd cc
      | inr more ↦ in_appends cs name bytes more
    ]
in_appends (change.Remove n ∷ cs) name bytes h =
    elim (first_or_further (change.Remove n) cs (change.Append name bytes) h) [
      | inl same ↦ absurd cc
      | inr more ↦ in_appends cs name bytes more
    ]
