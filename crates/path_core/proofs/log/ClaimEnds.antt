-- Entry claims are not empty, and the claims that end at one key are one.
use Rattle.std.proofs.Common.{
  ◌≡◌,
  ℕ,
  ◌<◌,
  ◌≤◌,
  not,
  List,
  length,
  IsTrue,
  sym,
  ap,
  ◌∙◌,
  subst,
  arith,
  ◌⊎◌,
}
use Rattle.std.specs.List.{Contains}
use Rattle.std.proofs.lemmas.Bool.{false≢true}
use Rattle.std.proofs.lemmas.List.{get_or_default}
use mathlib.Core.Logic.{dite, inl, inr}
use native.Mathlib.Decide.{ℕ_discrete, dec_lt}
use Rattle.path_core.specs.declared.event.ClaimKind.{ClaimKind}
use Rattle.path_core.specs.declared.event.ClaimKind.TheVariants.{Entry, Marker}
use Rattle.path_core.specs.declared.state.Claim.{Claim as ClaimOf}
use Rattle.path_core.specs.LawfulLog.{TileTo, StandsAt, claim_in, key_before}
use Rattle.path_core.specs.Parts.{no_claim, is_entry, is_marker_kind}

module _ (capacity ordinals log : ℕ) (claims : List ClaimOf)
    (T : TileTo capacity ordinals log claims) where
  pub entry_long : (i : ℕ) → i < length claims → IsTrue (is_entry (claim_in claims i))
      → (claim_in claims i).start < (claim_in claims i).end
  entry_long i inside entry = by (claim_in claims i).what entry (T.stands i inside)
    where
      by : (what : ClaimKind) → IsTrue (not (is_marker_kind what))
          → StandsAt what capacity ordinals (key_before capacity claims i)
          (claim_in claims i).start (claim_in claims i).end
          → (claim_in claims i).start < (claim_in claims i).end
      by Entry entry s = let l = s.least in omega arith
      by Marker entry s = absurd (false≢true entry)

  pub read_claim : (c : ClaimOf) (h : Contains claims c) → claim_in claims h.0 ≡ c
  read_claim c h = get_or_default claims h.0 no_claim c h.1 ∙ h.2

  pub entry_is_long : (c : ClaimOf) → Contains claims c → IsTrue (is_entry c) → c.start < c.end
  entry_is_long c h entry = subst (λ (d : ClaimOf). d.start < d.end) (read_claim c h)
      (entry_long h.0 h.1 (subst (λ (d : ClaimOf). IsTrue (is_entry d)) (sym
      (read_claim c h)) entry))

  pub ends_below : (c : ClaimOf) → Contains claims c → c.end ≤ log
  ends_below c h = subst (λ (d : ClaimOf). d.end ≤ log) (read_claim c h) (T.below_log h.0 h.1)

  -- two entry claims are one, or one ends before the other begins
  pub one_or_apart : (c d : ClaimOf) → Contains claims c → Contains claims d
      → (c ≡ d) ⊎ ((c.end ≤ d.start) ⊎ (d.end ≤ c.start))
  one_or_apart c d g h = dite (ℕ_discrete g.0 h.0)
      (λ e. inl (sym (read_claim c g) ∙ ap (claim_in claims) e ∙ read_claim d h))
      (λ n. dite (dec_lt g.0 h.0)
      (λ l. inr (inl (subst (λ (a : ClaimOf). a.end ≤ d.start) (read_claim c g)
      (subst (λ (b : ClaimOf). (claim_in claims g.0).end ≤ b.start) (read_claim d h)
      (T.apart g.0 h.0 l h.1)))))
      (λ m. inr (inr (subst (λ (a : ClaimOf). a.end ≤ c.start) (read_claim d h)
      (subst (λ (b : ClaimOf). (claim_in claims h.0).end ≤ b.start) (read_claim c g)
      (T.apart h.0 g.0 (omega arith) g.1))))))

  pub same_end : (c d : ClaimOf) → Contains claims c → Contains claims d → IsTrue (is_entry c)
      → IsTrue (is_entry d) → c.end ≡ d.end → c ≡ d
  same_end c d g h p q e =
      let a = entry_is_long c g p in
      let b = entry_is_long d h q in
      elim (one_or_apart c d g h) [
        | inl is ↦ is
        | inr other ↦ elim other [ inl l ↦ absurd (omega arith) | inr l ↦ absurd (omega arith) ]
      ]
