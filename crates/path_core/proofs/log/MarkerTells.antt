-- What the last marker tells: when a barrier is wanted, when the log may be synced up to it, and
-- when a further one may be claimed. First that of the state, then the one that the holder of the
-- Sync turn keeps.
use Rattle.std.proofs.Common.{
  ◌≡◌,
  ℕ,
  zero,
  suc,
  ◌==◌,
  ◌&&◌,
  ◌⊎◌,
  Bool,
  true,
  false,
  cond,
  List,
  [],
  ◌∷◌,
  Option,
  Some,
  None,
  is_none,
  refl,
  sym,
  ap,
  ◌∙◌,
  subst,
  arith,
}
use Rattle.std.specs.Prelude.{◌↔◌, ◌<◌, IsTrue}
use Rattle.std.specs.List.{Contains, fold}
use Rattle.std.specs.Option.{option_map, option_and_then}
use Rattle.std.proofs.lemmas.Bool.{and_from, eq-eqb}
use Rattle.std.proofs.lemmas.Option.{none-some, same_Some}
use mathlib.Core.Logic.{inl, inr}
use Rattle.op_core.specs.declared.count.Order.TheVariants.{Append}
use Rattle.op_core.specs.Tallies.{IsPassed}
use Rattle.path_core.specs.declared.seat.LastMarker.{LastMarker}
use Rattle.path_core.specs.declared.seat.Seat.{Seat}
use Rattle.path_core.specs.declared.seat.SyncTurn.{SyncTurn}
use Rattle.path_core.specs.declared.state.Claim.{Claim as ClaimOf}
use Rattle.path_core.specs.declared.state.PathState.{PathState}
use Rattle.path_core.specs.Parts.{
  seat_of,
  is_marker,
  marker_of,
  kept_of,
  last_marker,
  last_kept,
}
use Rattle.path_core.specs.Allowed.{WantsBarrier, IsSyncPoint, is_unbarred_marker, is_entry_last}
use Rattle.path_core.specs.Holders.{IsPassedBarrier, behind_last}
use Rattle.path_core.specs.Lawful.{IsLawfulPath}
use Rattle.path_core.proofs.lists.Passing.{any_from}
use Rattle.path_core.proofs.log.MarkerSteps.{later_marker, last_is_marker}
use Rattle.path_core.proofs.log.EntrySinceMarker.{
  at_last,
  entry_since_marker,
  entry_before_markers,
}

-- the last marker is among the claims
last_among : (cs : List ClaimOf) (o : Option ClaimOf) (c : ClaimOf)
    → fold later_marker o cs ≡ Some c → (o ≡ Some c) ⊎ Contains cs c
last_among [] o c h = inl h
last_among (d ∷ cs) o c h = elim (last_among cs (later_marker o d) c h) [
  | inr r ↦ inr (suc r.0, (let l = r.1 in omega arith), r.2)
  | inl q ↦ choose (is_marker d) q
]
  where
    choose : (b : Bool) → cond b (Some d) o ≡ Some c → (o ≡ Some c) ⊎ Contains (d ∷ cs) c
    choose true q = inr (zero, omega arith, same_Some d c q)
    choose false q = inl q

module _ (x : PathState) (c : ClaimOf) (last : last_marker x ≡ Some c) where
  pub last_claimed : Contains x.claims c
  last_claimed = elim (last_among x.claims None c last) [
    | inl q ↦ absurd (none-some c q)
    | inr r ↦ r
  ]

  -- While the last marker has no barrier, its writer wants one.
  pub last_wants : c.barrier ≡ None → WantsBarrier Append x c.by
  last_wants none = any_from (is_unbarred_marker c.by) x.claims c last_claimed
      (and_from (is_marker c && (c.by == c.by)) (is_none c.barrier)
      (and_from (is_marker c) (c.by == c.by) (last_is_marker x.claims c last)
      (eq-eqb c.by c.by refl)) (ap (λ (o : Option ℕ). is_none o) none))

  -- Once its barrier is passed, the log may be synced up to it.
  pub last_synced : (g : ℕ) → c.barrier ≡ Some g → IsPassed x.append.tallies g
      → IsSyncPoint x c.start
  last_synced g issued passed = record {
    marker = c;
    claimed = last_claimed;
    is = last_is_marker x.claims c last;
    start = refl;
    above = c;
    above_claimed = last_claimed;
    above_is = last_is_marker x.claims c last;
    above_start = omega arith;
    group = g;
    issued = issued;
    passed = passed;
  }

-- the claim of which is kept
pub claim_of_kept : (o : Option ClaimOf) (kept : LastMarker) → option_map kept_of o ≡ Some kept
    → (c : ClaimOf) × (o ≡ Some c) × (kept_of c ≡ kept)
claim_of_kept None kept e = absurd (none-some kept e)
claim_of_kept (Some c) kept e = (c, refl, same_Some (kept_of c) kept e)

-- the turn under which one is kept
turn_of_marker : (o : Option SyncTurn) (kept : LastMarker)
    → option_and_then (λ (turn : SyncTurn). turn.marker) o ≡ Some kept
    → (turn : SyncTurn) × (o ≡ Some turn) × (turn.marker ≡ Some kept)
turn_of_marker None kept h = absurd (none-some kept h)
turn_of_marker (Some turn) kept h = (turn, refl, h)

module _ (x : PathState) (L : IsLawfulPath x) where
  -- A barrier of the append order is wanted exactly where the seat's part says so.
  pub wanted_by_seat : (w : ℕ) → WantsBarrier Append x w ↔ IsTrue (seat_of x w).marker_waits
  wanted_by_seat w =
      let exact = (L.seats_know w).marker_waits in ((λ h. exact ∙ h), (λ h. sym exact ∙ h))

  -- The holder keeps the last marker.
  pub marker_exact : (w : ℕ) (kept : LastMarker) → marker_of (seat_of x w) ≡ Some kept
      → (c : ClaimOf) × (last_marker x ≡ Some c) × (kept_of c ≡ kept)
  marker_exact w kept h =
      let held = turn_of_marker (seat_of x w).sync kept h in
      claim_of_kept (last_marker x) kept
      (sym ((L.seats_know w).sync held.0 held.1).marker ∙ held.2)

  -- While it is the holder's own and has no barrier, the holder wants one.
  pub own_wants : (w : ℕ) (kept : LastMarker) → marker_of (seat_of x w) ≡ Some kept → kept.by ≡ w
      → kept.barrier ≡ None → WantsBarrier Append x w
  own_wants w kept h own none = let C = marker_exact w kept h in
      subst (WantsBarrier Append x) (ap (λ (k : LastMarker). k.by) C.2 ∙ own)
      (last_wants x C.0 C.1 (ap (λ (k : LastMarker). k.barrier) C.2 ∙ none))

  -- The log may be synced up to it exactly once its barrier is passed.
  pub synced_by_marker : (w : ℕ) (kept : LastMarker) → marker_of (seat_of x w) ≡ Some kept
      → IsSyncPoint x kept.start ↔ IsPassedBarrier x.append.tallies kept.barrier
  synced_by_marker w kept h = let C = marker_exact w kept h in (to C, from C kept.barrier refl)
    where
      to : (c : ClaimOf) × (last_marker x ≡ Some c) × (kept_of c ≡ kept) → IsSyncPoint x kept.start
          → IsPassedBarrier x.append.tallies kept.barrier
      to C S =
          let start = ap (λ (k : LastMarker). k.start) C.2 in
          let same = at_last x L C.0 S.above C.1 S.above_claimed S.above_is
          (let high = S.above_start in omega arith) in
          subst (IsPassedBarrier x.append.tallies) (ap (λ (k : LastMarker). k.barrier) C.2)
          (subst (IsPassedBarrier x.append.tallies)
          (sym (ap (λ (d : ClaimOf). d.barrier) same ∙ S.issued)) S.passed)

      from : (c : ClaimOf) × (last_marker x ≡ Some c) × (kept_of c ≡ kept) → (o : Option ℕ)
          → kept.barrier ≡ o → IsPassedBarrier x.append.tallies o → IsSyncPoint x kept.start
      from C None e passed = absurd passed
      from C (Some g) e passed = subst (IsSyncPoint x) (ap (λ (k : LastMarker). k.start) C.2)
          (last_synced x C.0 C.1 g (ap (λ (k : LastMarker). k.barrier) C.2 ∙ e) passed)

  -- An entry was claimed since the last marker exactly where the log moved on from behind it.
  pub entry_since : IsTrue (is_entry_last x)
      ↔ (behind_last x.capacity (last_kept x.claims) < x.log)
  entry_since = by (last_marker x) refl
    where
      by : (o : Option ClaimOf) → last_marker x ≡ o
          → IsTrue (is_entry_last x) ↔ (behind_last x.capacity (option_map kept_of o) < x.log)
      by None e = entry_before_markers x L e
      by (Some c) e = entry_since_marker x L c e

-- Holders with equal parts get equal answers.

module _ (x y : PathState) (L : IsLawfulPath x) (M : IsLawfulPath y) (v w : ℕ)
    (same : seat_of x v ≡ seat_of y w) where
  pub equal_markers_wanted : WantsBarrier Append x v ↔ WantsBarrier Append y w
  equal_markers_wanted =
      let here = wanted_by_seat x L v in
      let there = wanted_by_seat y M w in (
        (λ h. there.1 (subst (λ (s : Seat). IsTrue s.marker_waits) same (here.0 h))),
        (λ h. here.1 (subst (λ (s : Seat). IsTrue s.marker_waits) (sym same) (there.0 h))),
      )

  pub equal_synced : (kept : LastMarker) → x.append.tallies ≡ y.append.tallies
      → marker_of (seat_of x v) ≡ Some kept → IsSyncPoint x kept.start ↔ IsSyncPoint y kept.start
  equal_synced kept tallies h =
      let here = synced_by_marker x L v kept h in
      let there = synced_by_marker y M w kept (sym (ap marker_of same) ∙ h) in (
        (λ s. there.1 (subst (λ ts. IsPassedBarrier ts kept.barrier) tallies (here.0 s))),
        (λ s. here.1 (subst (λ ts. IsPassedBarrier ts kept.barrier) (sym tallies) (there.0 s))),
      )

  pub equal_entry_last : (turn : SyncTurn) → x.capacity ≡ y.capacity → x.log ≡ y.log
      → (seat_of x v).sync ≡ Some turn → IsTrue (is_entry_last x) ↔ IsTrue (is_entry_last y)
  equal_entry_last turn capacity log h =
      let here = entry_since x L in
      let there = entry_since y M in
      let mine = ((L.seats_know v).sync turn h).marker in
      let its = ((M.seats_know w).sync turn (sym (ap (λ (s : Seat). s.sync) same) ∙ h)).marker in
      let behind : behind_last x.capacity (last_kept x.claims)
      ≡ behind_last y.capacity (last_kept y.claims)
      = ap (λ c. behind_last c (last_kept x.claims)) capacity
      ∙ ap (behind_last y.capacity) (sym mine ∙ its) in (
        (λ e. there.1 (let above = here.0 e in omega arith)),
        (λ e. here.1 (let above = there.0 e in omega arith)),
      )
