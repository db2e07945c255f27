-- Writes of later groups are logged above a marker whose barrier is of an earlier one, and the
-- synced key is the start of a marker: each allowed step keeps both.
use Rattle.std.proofs.Common.{
  ◌≡◌,
  ℕ,
  ◌<◌,
  ◌≤◌,
  Bool,
  true,
  false,
  cond,
  [],
  ◌∷◌,
  length,
  Some,
  IsTrue,
  sym,
  ap,
  ◌∙◌,
  subst,
  arith,
}
use Rattle.std.specs.List.{Contains}
use Rattle.std.proofs.lemmas.Option.{none-some, same_Some}
use Rattle.std.proofs.lemmas.List.{get_or_default}
use Rattle.std.proofs.lemmas.List.Elements.{Contains-append_left}
use mathlib.Core.Logic.{inl, inr}
use Rattle.op_core.specs.declared.count.Order.TheVariants.{Write, Append}
use Rattle.path_core.specs.declared.event.ClaimKind.TheVariants.{Entry, Marker}
use Rattle.path_core.specs.declared.event.Cursor.TheVariants.{Synced, OldestLive, Stopped}
use Rattle.path_core.specs.declared.event.Event.{Event}
use Rattle.path_core.specs.declared.event.Event.TheVariants.{
  Register,
  Close,
  MoveCurrent,
  Claim,
  Put,
}
use Rattle.path_core.specs.declared.seat.Range.{Range}
use Rattle.path_core.specs.declared.state.Claim.{Claim as ClaimOf}
use Rattle.path_core.specs.declared.state.PathState.{PathState}
use Rattle.path_core.specs.Parts.{no_claim, seat_of, claim_at, is_marker}
use Rattle.path_core.specs.Words.{by_of}
use Rattle.path_core.specs.Allowed.{IsStep, is_unbarred_marker}
use Rattle.path_core.specs.Next.{next_of, claim_of, barred_marker}
use Rattle.path_core.specs.Lawful.{IsLawfulLog}
use Rattle.path_core.specs.LawfulLog.{ClaimsTile, SyncedIsMarker}
use Rattle.path_core.specs.LawfulOrders.{IsOrderly}
use Rattle.path_core.specs.LawfulTables.{LaterGroupsAbove}
use Rattle.path_core.proofs.lists.Inserted.{map_old}
use Rattle.path_core.proofs.seats.Columns.{each_seat, append_after, claim_after}
use Rattle.path_core.proofs.orders.OtherSteps.{columns_of}
use Rattle.path_core.proofs.orders.NobodyAbove.{nobody_above_now}
use Rattle.path_core.proofs.log.LogGrows.{log_grows, claimed_above}
use Rattle.path_core.proofs.tables.KeepsBarriers.{marker_barrier}

module _ (x : PathState) (L : IsLawfulLog x) where
  abbrev O : IsOrderly x
  O = L.orders

  abbrev T : ClaimsTile x
  T = L.claims_tile_the_log

  -- Each allowed step keeps that later groups log above a marker.
  pub keeps_later_groups : LaterGroupsAbove x → (e : Event) → IsStep x e
      → LaterGroupsAbove (next_of x e)
  keeps_later_groups A e a = record {
    markers = λ i g h w r inside marker barrier append less claim.
        let B = marker_barrier x e a i g inside barrier in elim B.barrier [
          | inl old ↦ subst (λ (k : ℕ). k < r.end) B.start
              (later i g h w r B.inside (B.marker marker) old append less claim)
          | inr now ↦ absurd (let n = nobody_above_now x O L.sized Append e a w h append in
              let is = now.0 in omega arith)
        ];
  }
    where
      own : (e : Event) → IsStep x e → (key g : ℕ) → key ≤ x.log
          → ((h : ℕ) (r : Range) → (seat_of x (by_of e)).append ≡ Some h → g < h
          → (seat_of x (by_of e)).claim ≡ Some r → key < r.end)
          → (h : ℕ) (r : Range) → append_after (seat_of x (by_of e)).append e ≡ Some h → g < h
          → claim_after (seat_of x (by_of e)).claim e ≡ Some r → key < r.end
      own (Register by Append k) a key g low before h r app less cl =
          absurd (none-some r (sym a.row.1.2 ∙ cl))
      own (Register by Write k) a key g low before h r app less cl = before h r app less cl
      own (Close by Append k carried) a key g low before h r app less cl = absurd (none-some h app)
      own (Close by Write k carried) a key g low before h r app less cl = absurd (none-some r cl)
      own (Claim by from to Entry) a key g low before h r app less cl =
          let high = claimed_above x L.sized T by from to a in
          let end = ap (λ (q : Range). q.end) (same_Some _ r cl) in omega arith
      own (Claim by from to Marker) a key g low before h r app less cl = before h r app less cl
      own e a key g low before h r app less cl = before h r app less cl

      later : (i g h w : ℕ) (r : Range) → i < length x.claims → IsTrue (is_marker (claim_at x i))
          → (claim_at x i).barrier ≡ Some g → (seat_of (next_of x e) w).append ≡ Some h → g < h
          → (seat_of (next_of x e) w).claim ≡ Some r → (claim_at x i).start < r.end
      later i g h w r inside marker barrier append less claim =
          let key = (claim_at x i).start in
          let low : key ≤ x.log = let f = T.forward i inside in let b = T.below_log i inside in
          omega arith in
          let C = columns_of x L.sized O e a.is_there in
          each_seat x e a.seat
          (λ _ s. (h : ℕ) (r : Range) → s.append ≡ Some h → g < h → s.claim ≡ Some r → key < r.end)
          (λ h r app less cl. own e a key g low
          (λ h r p q c. A.markers i g h (by_of e) r inside marker barrier p q c) h r
          (sym C.append ∙ app) less (sym C.claim ∙ cl))
          (λ v _ h r p q c. A.markers i g h v r inside marker barrier p q c)
          w h r append less claim

  -- Markers stay, with the start that they have.

  -- a marker starts at a key
  abbrev pub MarkerAt : PathState → ℕ → Type 0
  MarkerAt y key = (c : ClaimOf) × Contains y.claims c × IsTrue (is_marker c) × (c.start ≡ key)

  -- a marker at a key stays
  marker_stays : (e : Event) (key : ℕ) → MarkerAt x key → MarkerAt (next_of x e) key
  marker_stays (Claim by from to what) key M = (
    M.0,
    Contains-append_left x.claims (claim_of x.capacity by from.0 to.0 what ∷ []) M.0 M.1,
    M.2,
    M.3,
  )
  marker_stays (MoveCurrent by Append group) key M = (
    barred_marker by x.append.current M.0,
    map_old (barred_marker by x.append.current) x.claims M.0 M.1,
    marker (is_unbarred_marker by M.0),
    start (is_unbarred_marker by M.0),
  )
    where
      marker : (b : Bool)
          → IsTrue (is_marker (cond b (record M.0 { barrier = Some x.append.current }) M.0))
      marker true = M.2
      marker false = M.2

      start : (b : Bool)
          → (cond b (record M.0 { barrier = Some x.append.current }) M.0).start ≡ key
      start true = M.3
      start false = M.3
  marker_stays (MoveCurrent by Write group) key M = M
  marker_stays e key M = M

  -- a claim starts at or below the log key
  starts_below : (c : ClaimOf) → Contains x.claims c → c.start ≤ x.log
  starts_below c h = let f = T.forward h.0 h.1 in let b = T.below_log h.0 h.1 in
      subst (λ (d : ClaimOf). d.start ≤ x.log) (get_or_default x.claims h.0 no_claim c h.1 ∙ h.2)
      (omega arith)

  -- Each allowed step keeps that the synced key is the start of a marker.
  pub keeps_synced : SyncedIsMarker x → (e : Event) → IsStep x e → SyncedIsMarker (next_of x e)
  keeps_synced S e a = record { below_log = low e a; marker = at e a }
    where
      low : (e : Event) → IsStep x e → (next_of x e).synced ≤ (next_of x e).log
      low (Put by Synced value) a = let P = a.row.3 in
          subst (λ k. k ≤ x.log) P.start (starts_below P.marker P.claimed)
      low (Put by (OldestLive table) value) a = S.below_log
      low (Put by Stopped value) a = S.below_log
      low e a = let g = log_grows x L.sized T e a in let l = S.below_log in omega arith

      at : (e : Event) → IsStep x e → 0 < (next_of x e).synced
          → MarkerAt (next_of x e) (next_of x e).synced
      at (Put by Synced value) a some = let P = a.row.3 in (P.marker, P.claimed, P.is, P.start)
      at (Put by (OldestLive table) value) a some = S.marker some
      at (Put by Stopped value) a some = S.marker some
      at e a some = marker_stays e x.synced (S.marker some)
