-- Entry claims stay, and a seat's claim is among the claims: each allowed step keeps it.
use Rattle.std.proofs.Common.{
  ◌≡◌,
  ℕ,
  ◌==◌,
  Bool,
  true,
  false,
  not,
  ◌&&◌,
  cond,
  [],
  ◌∷◌,
  map,
  Some,
  is_none,
  IsTrue,
  refl,
  sym,
  ap,
  ◌∙◌,
  subst,
  ◌⊎◌,
}
use Rattle.std.specs.List.{Contains}
use Rattle.std.proofs.lemmas.Bool.{false≢true}
use Rattle.std.proofs.lemmas.Option.{none-some, same_Some}
use Rattle.std.proofs.lemmas.List.Elements.{
  Contains-append_left,
  Contains-push,
  Contains-push_cases,
}
use mathlib.Core.Logic.{inl, inr}
use Rattle.op_core.specs.declared.count.Order.TheVariants.{Write, Append}
use Rattle.path_core.specs.declared.event.ClaimKind.{ClaimKind}
use Rattle.path_core.specs.declared.event.ClaimKind.TheVariants.{Entry, Marker}
use Rattle.path_core.specs.declared.event.Event.{Event}
use Rattle.path_core.specs.declared.event.Event.TheVariants.{Close, MoveCurrent, Claim}
use Rattle.path_core.specs.declared.seat.Range.{Range}
use Rattle.path_core.specs.declared.state.PathState.{PathState}
use Rattle.path_core.specs.Parts.{seat_of, is_entry, is_marker_kind}
use Rattle.path_core.specs.Words.{by_of}
use Rattle.path_core.specs.Allowed.{IsStep, is_unbarred_marker}
use Rattle.path_core.specs.Next.{next_of, claim_of, barred_marker}
use Rattle.path_core.specs.Lawful.{IsSized}
use Rattle.path_core.specs.LawfulOrders.{IsOrderly}
use Rattle.path_core.proofs.seats.Columns.{each_seat, claim_after}
use Rattle.path_core.specs.declared.state.Claim.{Claim as ClaimOf}
use Rattle.path_core.specs.LawfulLog.{entry_claim, OwnClaims}
use Rattle.path_core.proofs.lists.Inserted.{map_old, map_from}
use Rattle.path_core.proofs.orders.OtherSteps.{columns_of}

module _ (x : PathState) where
  -- a claim that is no marker of the seat stays as it is
  entry_stays : (by group : ℕ) (c : ClaimOf) → IsTrue (is_entry c) → barred_marker by group c ≡ c
  entry_stays by group c entry = by_kind c.what refl entry
    where
      by_kind : (what : ClaimKind) → c.what ≡ what → IsTrue (not (is_marker_kind what))
          → barred_marker by group c ≡ c
      by_kind Entry e entry = ap (λ (b : Bool). cond b (record c { barrier = Some group }) c)
          (ap (λ w. is_marker_kind w && (c.by == by) && is_none c.barrier) e)
      by_kind Marker e entry = absurd (false≢true entry)

  -- entry claims stay
  pub claims_stay : (e : Event) (c : ClaimOf) → IsTrue (is_entry c) → Contains x.claims c
      → Contains (next_of x e).claims c
  claims_stay (Claim by from to what) c entry h =
      Contains-append_left x.claims (claim_of x.capacity by from.0 to.0 what ∷ []) c h
  claims_stay (MoveCurrent by Append group) c entry h =
      subst (λ d. Contains (map (barred_marker by x.append.current) x.claims) d)
      (entry_stays by x.append.current c entry) (map_old
      (barred_marker by x.append.current) x.claims c h)
  claims_stay (MoveCurrent by Write group) c entry h = h
  claims_stay e c entry h = h

  -- an entry claim is there, or is claimed by this step
  abbrev pub ClaimedNow : Event → ClaimOf → Type 0
  ClaimedNow (Claim by from to Entry) c = claim_of x.capacity by from.0 to.0 Entry ≡ c
  ClaimedNow _ c = ⊥

  pub claims_were : (e : Event) (c : ClaimOf) → IsTrue (is_entry c)
      → Contains (next_of x e).claims c
      → Contains x.claims c ⊎ ClaimedNow e c
  claims_were (Claim by from to Entry) c entry h = Contains-push_cases x.claims _ c h
  claims_were (Claim by from to Marker) c entry h = elim (Contains-push_cases x.claims _ c h) [
    | inl old ↦ inl old
    | inr is ↦ absurd (false≢true (subst (λ (d : ClaimOf). IsTrue (is_entry d)) (sym is) entry))
  ]
  claims_were (MoveCurrent by Append group) c entry h =
      let r = map_from (barred_marker by x.append.current) x.claims c h in
      let f = barred_marker by x.append.current in
      inl (subst (λ d. Contains x.claims d)
      (sym (entry_stays by x.append.current r.0 (was_entry by r.0 c r.2 entry)) ∙ r.2) r.1)
    where
      was_entry : (by : ℕ) (d c : ClaimOf) → barred_marker by x.append.current d ≡ c
          → IsTrue (is_entry c) → IsTrue (is_entry d)
      was_entry by d c is entry = choose (is_unbarred_marker by d)
          (subst (λ (k : ClaimOf). IsTrue (is_entry k)) (sym is) entry)
        where
          choose : (b : Bool)
              → IsTrue (is_entry (cond b (record d { barrier = Some x.append.current }) d))
              → IsTrue (is_entry d)
          choose true h = h
          choose false h = h
  claims_were (MoveCurrent by Write group) c entry h = inl h
  claims_were e c entry h = inl h

  -- A seat's claim is among the claims.

  pub keeps_owned : IsSized x → IsOrderly x → OwnClaims x → (e : Event) → IsStep x e
      → OwnClaims (next_of x e)
  keeps_owned sized O owned e a w = each_seat x e a.seat (λ w s. (r : Range) → s.claim ≡ Some r
      → Contains (next_of x e).claims (entry_claim w r.start r.end))
      (λ r h. own e r a (sym (columns_of x sized O e a.is_there).claim ∙ h))
      (λ v _ r h. claims_stay e (entry_claim v r.start r.end) refl (owned v r h)) w
    where
      stays : (e : Event) (r : Range) → (seat_of x (by_of e)).claim ≡ Some r
          → Contains (next_of x e).claims (entry_claim (by_of e) r.start r.end)
      stays e r h = claims_stay e (entry_claim (by_of e) r.start r.end) refl (owned (by_of e) r h)

      own : (e : Event) (r : Range) → IsStep x e
          → claim_after (seat_of x (by_of e)).claim e ≡ Some r
          → Contains (next_of x e).claims (entry_claim (by_of e) r.start r.end)
      own (Claim by from to Entry) r a h =
          subst (λ (q : Range). Contains (next_of x (Claim by from to Entry)).claims
          (entry_claim by q.start q.end)) (same_Some _ r h)
          (Contains-push x.claims (claim_of x.capacity by from.0 to.0 Entry))
      own (Claim by from to Marker) r a h = stays (Claim by from to Marker) r h
      own (Close by Write group carried) r a h = absurd (none-some r h)
      own (Close by Append group carried) r a h = stays (Close by Append group carried) r h
      own e r a h = stays e r h
