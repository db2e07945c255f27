-- What the holder of the Sync turn keeps of the last marker, whoever claimed it: each step keeps it
-- exact.
use Rattle.std.proofs.Common.{
  ◌≡◌,
  ◌≢◌,
  ℕ,
  Bool,
  true,
  false,
  ◌&&◌,
  ◌==◌,
  cond,
  Option,
  Some,
  None,
  is_none,
  refl,
  sym,
  ap,
  ◌∙◌,
}
use Rattle.std.specs.Option.{option_map}
use Rattle.std.proofs.lemmas.Option.{none-some, same_Some}
use Rattle.clog_base.specs.declared.position.Key.{Key}
use Rattle.op_core.specs.declared.count.Order.TheVariants.{Write, Append}
use Rattle.path_core.specs.declared.event.ClaimKind.TheVariants.{Entry, Marker}
use Rattle.path_core.specs.declared.event.Event.{Event}
use Rattle.path_core.specs.declared.event.Event.TheVariants.{MoveCurrent, Claim, TakeTurn, GiveTurn}
use Rattle.path_core.specs.declared.event.Turn.TheVariants.{Sync}
use Rattle.path_core.specs.declared.seat.LastMarker.{LastMarker}
use Rattle.path_core.specs.declared.state.Claim.{Claim as ClaimOf}
use Rattle.path_core.specs.declared.state.PathState.{PathState}
use Rattle.path_core.specs.Parts.{seat_of, is_marker, last_marker, kept_of, last_kept}
use Rattle.path_core.specs.Words.{by_of, reading, place_of}
use Rattle.path_core.specs.Allowed.{IsStep}
use Rattle.path_core.specs.SeatAfter.{marker_barrier, marker_claimed}
use Rattle.path_core.specs.Next.{next_of, told_of, barred_marker}
use Rattle.path_core.specs.Holders.{ChangesLastMarker}
use Rattle.path_core.specs.LawfulOrders.{IsOrderly}
use Rattle.path_core.proofs.seats.Columns.{own_after, each_seat}
use Rattle.path_core.proofs.tables.Marks.{mapped_some}
use Rattle.path_core.proofs.log.MarkerSteps.{
  last_is_marker,
  last_marker_stays,
  last_marker_claimed,
  last_marker_barred,
  changer_holds_sync,
}
use Rattle.path_core.proofs.log.KeptMarker.{
  kept_under,
  marker_held,
  marker_changed,
  ChangesKept,
  kept_stays,
}

-- What is kept is the last marker.
abbrev pub KeptIs : PathState → Option (Option LastMarker) → Type 0
KeptIs x o = (kept : Option LastMarker) → o ≡ Some kept → kept ≡ last_kept x.claims

-- What is kept of a marker that may get a barrier is what is kept of the one that may have it.
barred_kept : (by g : ℕ) (o : Option ClaimOf)
    → ((c : ClaimOf) → o ≡ Some c → is_marker c ≡ true)
    → option_map (marker_barrier by g) (option_map kept_of o)
    ≡ option_map kept_of (option_map (barred_marker by g) o)
barred_kept by g None is = refl
barred_kept by g (Some c) is = ap Some (choose ((c.by == by) && is_none c.barrier) refl)
  where
    same_test : (a b d : Bool) → a ≡ true → (a && b) && d ≡ b && d
    same_test a b d h = ap (λ (a : Bool). (a && b) && d) h

    choose : (b : Bool) → ((c.by == by) && is_none c.barrier) ≡ b
        → marker_barrier by g (kept_of c) ≡ kept_of (barred_marker by g c)
    choose true h =
        ap (λ (b : Bool). cond b (record (kept_of c) { barrier = Some g }) (kept_of c)) h
        ∙ sym (ap (λ (b : Bool). kept_of (cond b (record c { barrier = Some g }) c))
        (same_test (is_marker c) (c.by == by) (is_none c.barrier) (is c refl) ∙ h))
    choose false h =
        ap (λ (b : Bool). cond b (record (kept_of c) { barrier = Some g }) (kept_of c)) h
        ∙ sym (ap (λ (b : Bool). kept_of (cond b (record c { barrier = Some g }) c))
        (same_test (is_marker c) (c.by == by) (is_none c.barrier) (is c refl) ∙ h))

module _ (x : PathState) (O : IsOrderly x) where
  -- what is kept, after a step that leaves both
  quiet_kept : (e : Event) → (ChangesLastMarker e → ⊥) → (ChangesKept e → ⊥)
      → KeptIs x (kept_under (seat_of x (by_of e)).sync)
      → KeptIs (next_of x e) (kept_under (own_after x e).sync)
  quiet_kept e other left K kept h = K kept
      (sym (kept_stays e (seat_of x (by_of e)) (reading x (place_of e)) (told_of x e) left) ∙ h)
      ∙ sym (ap (option_map kept_of) (last_marker_stays x e other))

  -- The holder claims a marker.
  claims : (by : ℕ) (from to : Key)
      → KeptIs (next_of x (Claim by from to Marker))
      (kept_under (own_after x (Claim by from to Marker)).sync)
  claims by from to kept h =
      let was = mapped_some (kept_under (seat_of x by).sync) (λ _. Some new) kept
      (sym (marker_changed (seat_of x by).sync (marker_claimed by from.0) (λ _. Some new)
      (λ turn. refl)) ∙ h) in
      was.2 ∙ sym (ap (option_map kept_of) (last_marker_claimed x by from to))
    where
      new : LastMarker
      new = record { by = by; start = from.0; barrier = None }

  -- Its barrier is issued.
  issues_barrier : (by group : ℕ) → KeptIs x (kept_under (seat_of x by).sync)
      → KeptIs (next_of x (MoveCurrent by Append group))
      (kept_under (own_after x (MoveCurrent by Append group)).sync)
  issues_barrier by group K kept h =
      let before = x.append.current in
      let was = mapped_some (kept_under (seat_of x by).sync) (option_map (marker_barrier by before))
      kept (sym (marker_changed (seat_of x by).sync _ (option_map (marker_barrier by before))
      (λ turn. refl)) ∙ h) in
      was.2 ∙ (ap (option_map (marker_barrier by before)) (K was.0 was.1)
      ∙ (barred_kept by before (last_marker x) (last_is_marker x.claims)
      ∙ sym (ap (option_map kept_of) (last_marker_barred x by group))))

  own_kept : (e : Event) → IsStep x e → KeptIs x (kept_under (seat_of x (by_of e)).sync)
      → KeptIs (next_of x e) (kept_under (own_after x e).sync)
  own_kept (Claim by from to Marker) a K = claims by from to
  own_kept (MoveCurrent by Append group) a K = issues_barrier by group K
  own_kept (TakeTurn by Sync) a K = λ kept h. sym (same_Some (last_kept x.claims) kept h)
  own_kept (GiveTurn by Sync) a K = λ kept h. absurd (none-some kept h)
  own_kept (Claim by from to Entry) a K = quiet_kept (Claim by from to Entry) (λ b. b) (λ b. b) K
  own_kept (MoveCurrent by Write group) a K =
      quiet_kept (MoveCurrent by Write group) (λ b. b) (λ b. b) K
  own_kept e a K = quiet_kept e (λ b. b) (λ b. b) K

  -- Another seat keeps none while the holder changes it.
  other_kept : (e : Event) → IsStep x e → (w : ℕ) → w ≢ by_of e
      → KeptIs x (kept_under (seat_of x w).sync)
      → KeptIs (next_of x e) (kept_under (seat_of x w).sync)
  other_kept e a w apart K kept h = K kept h ∙ sym (ap (option_map kept_of) (last_marker_stays x e
      (λ c. apart (O.one_holder_a_turn.one Sync w (by_of e)
      (marker_held (seat_of x w).sync kept h) (changer_holds_sync x e a c)))))

  -- Each step keeps that what the holder keeps of the last marker is so.
  pub keeps_markers : ((w : ℕ) → KeptIs x (kept_under (seat_of x w).sync)) → (e : Event)
      → IsStep x e → (w : ℕ) → KeptIs (next_of x e) (kept_under (seat_of (next_of x e) w).sync)
  keeps_markers K e a w = each_seat x e a.seat
      (λ v s. KeptIs (next_of x e) (kept_under s.sync)) (own_kept e a (K (by_of e)))
      (λ v apart. other_kept e a v apart (K v)) w
