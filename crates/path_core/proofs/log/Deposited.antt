-- Where markers start, and that up to a marker whose barrier is passed all is deposited.
use Rattle.std.proofs.Common.{
  ◌≡◌,
  ℕ,
  suc,
  ◌+◌,
  ◌<◌,
  ◌≤◌,
  ◌==◌,
  true,
  false,
  not,
  ◌-◌,
  ◌&&◌,
  length,
  Option,
  Some,
  None,
  is_some,
  is_none,
  IsSome,
  IsTrue,
  refl,
  sym,
  ap,
  ◌∙◌,
  subst,
  arith,
}
use Rattle.std.specs.List.{count_by, Contains}
use Rattle.std.specs.Option.{option_map_or}
use Rattle.std.proofs.lemmas.Bool.{false≢true, and_right, eqb-true, ne_eqb}
use Rattle.std.proofs.lemmas.List.{get_or_default}
use mathlib.Core.Logic.{dite}
use native.Mathlib.Decide.{dec_lt}
use Rattle.op_core.specs.declared.count.Order.TheVariants.{Append}
use Rattle.path_core.specs.declared.event.ClaimKind.{ClaimKind}
use Rattle.path_core.specs.declared.event.ClaimKind.TheVariants.{Entry, Marker}
use Rattle.path_core.specs.declared.seat.Range.{Range}
use Rattle.path_core.specs.declared.state.Claim.{Claim as ClaimOf}
use Rattle.path_core.specs.declared.state.PathState.{PathState}
use Rattle.path_core.specs.Keys.{offset_of, first_offset}
use Rattle.path_core.specs.Parts.{
  fresh_seat,
  no_claim,
  seat_of,
  claim_at,
  is_entry,
  is_marker,
  is_marker_kind,
}
use Rattle.path_core.specs.Markers.{IsPassedMarker, HasPassedMarker}
use Rattle.path_core.specs.Promises.{IsDeposited}
use Rattle.path_core.specs.Lawful.{IsLawfulLog}
use Rattle.path_core.specs.LawfulLog.{
  claim_in,
  key_behind,
  key_before,
  StandsAt,
  is_undeposited,
  is_note_at,
  ClaimsTile,
  entry_claim,
}
use Rattle.path_core.specs.LawfulTables.{LaterGroupsAbove}
use Rattle.path_core.proofs.lists.Replaced.{counted_from, none_counted}
use Rattle.path_core.proofs.log.ClaimEnds.{same_end}
use Rattle.path_core.proofs.orders.NobodyAbove.{inhabited}

module _ (x : PathState) (L : IsLawfulLog x) where
  abbrev T : ClaimsTile x
  T = L.claims_tile_the_log

  -- A marker starts where the entry before it ends, behind the front of a segment.

  -- where an entry stands behind a front, so does its end
  front_of : (start end : ℕ) → first_offset ≤ offset_of start
      → offset_of start + (end - start) ≤ x.capacity → start ≤ end → first_offset ≤ offset_of end
  front_of start end front inside forward =
      let few = L.sized.limits.greatest_capacity in omega arith

  -- a marker starts at the end of the entry before it
  marker_start : (i k : ℕ) → i < length x.claims → i ≡ suc k
      → IsTrue (is_marker (claim_in x.claims i)) → IsTrue (is_entry (claim_in x.claims k))
      → (claim_in x.claims i).start ≡ (claim_in x.claims k).end
  marker_start i k inside next marker entry =
      at_key (claim_in x.claims i).what marker (T.stands i inside)
      ∙ ap (key_before x.capacity x.claims) next ∙ behind (claim_in x.claims k).what entry
    where
      at_key : (what : ClaimKind) → IsTrue (is_marker_kind what)
          → StandsAt what x.capacity x.ordinals (key_before x.capacity x.claims i)
          (claim_in x.claims i).start (claim_in x.claims i).end
          → (claim_in x.claims i).start ≡ key_before x.capacity x.claims i
      at_key Marker m s = s.starts
      at_key Entry m s = absurd (false≢true m)

      behind : (what : ClaimKind) → IsTrue (not (is_marker_kind what))
          → key_behind what x.capacity (claim_in x.claims k).start (claim_in x.claims k).end
          ≡ (claim_in x.claims k).end
      behind Entry m = refl
      behind Marker m = absurd (false≢true m)

  -- a marker starts behind a front
  pub behind_front : (c : ClaimOf) → Contains x.claims c → IsTrue (is_marker c)
      → first_offset ≤ offset_of c.start
  behind_front c h marker =
      let read = get_or_default x.claims h.0 no_claim c h.1 ∙ h.2 in
      let is = subst (λ d. IsTrue (is_marker d)) (sym read) marker in
      let before = T.entry_before h.0 h.1 is in
      let k = before.0 in
      let below : k < length x.claims = let l = h.1 in let next = before.1 in omega arith in
      let range = T.inside k below before.2 in
      subst (λ s. first_offset ≤ offset_of s)
      (sym (marker_start h.0 k h.1 before.1 is before.2) ∙ ap (λ (d : ClaimOf). d.start) read)
      (front_of (claim_in x.claims k).start (claim_in x.claims k).end range.0 range.1
      (T.forward k below))

  -- no seat has yet to deposit what ends at or below a marker whose barrier is passed
  pub all_deposited : LaterGroupsAbove x → (key : ℕ)
      → HasPassedMarker x.claims x.append.tallies key → (end : ℕ) → end ≤ key
      → count_by (is_undeposited end) x.seats ≡ 0
  all_deposited A key H end low = none_counted (is_undeposited end) x.seats fresh_seat
      (λ w. by_seat w (seat_of x w).claim (seat_of x w).note refl refl)
    where
      P : IsPassedMarker H.marker x.append.tallies key
      P = H.passed

      read : claim_at x H.among.0 ≡ H.marker
      read = get_or_default x.claims H.among.0 no_claim H.marker H.among.1
          ∙ H.among.2

      -- a write in the append order is in a later group than the marker's barrier
      is_above : (w h : ℕ) (r : Range) → (seat_of x w).claim ≡ Some r
          → (seat_of x w).append ≡ Some h → key < r.end
      is_above w h r cl app = dite (dec_lt P.group h)
          (λ less. let l = subst (λ (c : ClaimOf). c.start < r.end) read
          (A.markers H.among.0 P.group h w r H.among.1
          (subst (λ c. IsTrue (is_marker c)) (sym read) P.is)
          (subst (λ (c : ClaimOf). c.barrier ≡ Some P.group) (sym read) P.issued) app less cl) in
          let s = P.start in omega arith)
          (λ n. absurd (inhabited x L.orders Append w h app (P.passed.finished h (omega arith))))

      in_append : (w : ℕ) (r : Range) → (seat_of x w).claim ≡ Some r → (seat_of x w).note ≡ None
          → key < r.end
      in_append w r cl none =
          by (seat_of x w).append refl ((L.orders.orders_nest w).undeposited r cl none)
        where
          by : (o : Option ℕ) → (seat_of x w).append ≡ o → IsSome (seat_of x w).append
              → key < r.end
          by None e some = absurd (false≢true (sym (ap (λ p. is_some p) e) ∙ some))
          by (Some h) e some = is_above w h r cl e

      by_seat : (w : ℕ) (claim : Option Range) (kept : Option ℕ) → (seat_of x w).claim ≡ claim
          → (seat_of x w).note ≡ kept
          → (option_map_or (λ (r : Range). r.end == end) claim false && is_none kept) ≡ false
      by_seat w None kept e f = refl
      by_seat w (Some r) (Some t) e f = and_right (r.end == end) false refl
      by_seat w (Some r) None e f = ap (λ b. b && true)
          (ne_eqb r.end end (λ is. let l = in_append w r e f in omega arith))

  -- an entry that is claimed up to there is noted by its writer
  pub deposited_below : LaterGroupsAbove x → (key : ℕ)
      → HasPassedMarker x.claims x.append.tallies key → (c : ClaimOf) → Contains x.claims c
      → IsTrue (is_entry c) → c.end ≤ key → IsDeposited x c
  deposited_below A key H c h entry low =
      let none = all_deposited A key H c.end low in
      let once = L.each_claim_noted_once.once c h entry in
      let n = counted_from (is_note_at c.end) x.notes (omega arith) in
      let claim = L.notes_are_claims.each n.0 n.1 in
      let is = same_end x.capacity x.ordinals x.log x.claims T
      (entry_claim n.0.writer.0 n.0.start.0 n.0.end.0) c claim.claim h refl entry
      (eqb-true n.0.end.0 c.end n.2) in
      record {
        note = n.0;
        among = n.1;
        writer = ap (λ (d : ClaimOf). d.by) is;
        start = ap (λ (d : ClaimOf). d.start) is;
        end = ap (λ (d : ClaimOf). d.end) is;
      }
