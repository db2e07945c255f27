-- Whether a marker that a seat claimed waits for its barrier is exact in each seat's part, also
-- while it does not hold the Sync turn: each step keeps it so.
use Rattle.std.proofs.Common.{
  ◌≡◌,
  ◌≢◌,
  ℕ,
  Bool,
  true,
  false,
  ◌&&◌,
  ◌||◌,
  ◌==◌,
  cond,
  List,
  [],
  ◌∷◌,
  map,
  ◌++◌,
  Some,
  is_none,
  refl,
  sym,
  ap,
  ◌∙◌,
}
use Rattle.std.specs.List.{list_any}
use Rattle.std.proofs.lemmas.Bool.{
  and_left,
  and_right,
  and_from,
  eq-eqb,
  eqb-true,
  ne_eqb,
  and_parts,
}
use Rattle.std.proofs.lemmas.List.Folds.{list_any-append}
use Rattle.op_core.specs.declared.count.Order.TheVariants.{Write, Append}
use Rattle.path_core.specs.declared.event.Carried.TheVariants.{Nothing, Deposit, Applied}
use Rattle.path_core.specs.declared.event.ClaimKind.TheVariants.{Entry, Marker}
use Rattle.path_core.specs.declared.event.Cursor.TheVariants.{Synced, OldestLive, Stopped}
use Rattle.path_core.specs.declared.event.Event.{Event}
use Rattle.path_core.specs.declared.event.Event.TheVariants.{
  Look,
  Register,
  Close,
  OpenGroup,
  MoveCurrent,
  Expire,
  Advance,
  Claim,
  Switch,
  Raise,
  Finalise,
  TakeTurn,
  GiveTurn,
  Put,
}
use Rattle.path_core.specs.declared.event.Place.{Place}
use Rattle.path_core.specs.declared.event.Place.TheVariants.{
  Count,
  Current,
  Oldest,
  Log,
  Newest,
  Bound,
  TurnWord,
  CursorWord,
}
use Rattle.path_core.specs.declared.event.Reading.{Reading}
use Rattle.path_core.specs.declared.event.Reading.TheVariants.{Operations, Number, Limit}
use Rattle.path_core.specs.declared.event.SwitchPart.TheVariants.{Clear, Open, Mark}
use Rattle.path_core.specs.declared.event.Turn.TheVariants.{Sync, Flush}
use Rattle.path_core.specs.declared.seat.Seat.{Seat}
use Rattle.path_core.specs.declared.state.Claim.{Claim as ClaimOf}
use Rattle.path_core.specs.declared.state.PathState.{PathState}
use Rattle.path_core.specs.Parts.{seat_of, is_marker}
use Rattle.path_core.specs.Words.{by_of, reading, place_of}
use Rattle.path_core.specs.Allowed.{IsStep, is_unbarred_marker}
use Rattle.path_core.specs.Holders.{ChangesLastMarker}
use Rattle.path_core.specs.SeatAfter.{Told, seat_after, looked}
use Rattle.path_core.specs.SeatParts.{keeps, finished_found}
use Rattle.path_core.specs.Next.{next_of, told_of, claim_of, barred_marker}
use Rattle.path_core.proofs.seats.Columns.{own_after, each_seat}
use Rattle.path_core.proofs.log.MarkerSteps.{none_waits_now}
use Rattle.op_core.specs.Tallies.{is_finished}

-- Whether one waits is so.
abbrev pub WaitsAre : PathState → ℕ → Seat → Type 0
WaitsAre x w s = s.marker_waits ≡ list_any (is_unbarred_marker w) x.claims

-- no look changes it
looks_wait : (s : Seat) (at : Place) (found : Reading)
    → (looked s at found).marker_waits ≡ s.marker_waits
looks_wait s (Count Write group) (Operations k) = choose (is_finished k)
  where
    choose : (b : Bool) → (cond b (keeps Write (finished_found group) s) s).marker_waits
        ≡ s.marker_waits
    choose true = refl
    choose false = refl
looks_wait s (Count Append group) (Operations k) = choose (is_finished k)
  where
    choose : (b : Bool) → (cond b (keeps Append (finished_found group) s) s).marker_waits
        ≡ s.marker_waits
    choose true = refl
    choose false = refl
looks_wait s (Current Write) (Number n) = refl
looks_wait s (Current Append) (Number n) = refl
looks_wait s (Oldest Write) (Number n) = refl
looks_wait s (Oldest Append) (Number n) = refl
looks_wait s Log (Number n) = refl
looks_wait s (Newest t) (Number n) = refl
looks_wait s (Bound t m) (Limit b) = refl
looks_wait s (TurnWord turn) (Operations k) = refl
looks_wait s (TurnWord turn) (Number n) = refl
looks_wait s (TurnWord turn) (Limit b) = refl
looks_wait s (CursorWord Synced) (Number n) = refl
looks_wait s (CursorWord (OldestLive t)) (Number n) = refl
looks_wait s (CursorWord Stopped) (Number n) = refl
looks_wait s (Count order group) (Number n) = refl
looks_wait s (Count order group) (Limit b) = refl
looks_wait s (Current order) (Operations k) = refl
looks_wait s (Current order) (Limit b) = refl
looks_wait s (Oldest order) (Operations k) = refl
looks_wait s (Oldest order) (Limit b) = refl
looks_wait s at found = refl

-- nor does any step but those that change the last marker
waits_stay : (e : Event) (s : Seat) (found : Reading) (told : Told) → (ChangesLastMarker e → ⊥)
    → (seat_after s e found told).marker_waits ≡ s.marker_waits
waits_stay (Look by at) s found told other = looks_wait s at found
waits_stay (Register by Write group) s found told other = refl
waits_stay (Register by Append group) s found told other = refl
waits_stay (Close by Append group (Deposit note)) s found told other = refl
waits_stay (Close by Append group Nothing) s found told other = refl
waits_stay (Close by Append group (Applied places)) s found told other = refl
waits_stay (Close by Write group carried) s found told other = refl
waits_stay (OpenGroup by order group) s found told other = refl
waits_stay (MoveCurrent by Write group) s found told other = refl
waits_stay (MoveCurrent by Append group) s found told other = absurd (other tt)
waits_stay (Expire by order group) s found told other = refl
waits_stay (Advance by Write group) s found told other = refl
waits_stay (Advance by Append group) s found told other = refl
waits_stay (Claim by from to Entry) s found told other = refl
waits_stay (Claim by from to Marker) s found told other = absurd (other tt)
waits_stay (TakeTurn by Sync) s found told other = refl
waits_stay (TakeTurn by (Flush table)) s found told other = refl
waits_stay (GiveTurn by Sync) s found told other = refl
waits_stay (GiveTurn by (Flush table)) s found told other = refl
waits_stay (Put by Synced value) s found told other = refl
waits_stay (Put by (OldestLive table) value) s found told other = refl
waits_stay (Put by Stopped value) s found told other = refl
waits_stay (Raise by table m to) s (Operations k) told other = refl
waits_stay (Raise by table m to) s (Number n) told other = refl
waits_stay (Raise by table m to) s (Limit b) told other = refl
waits_stay (Finalise by table m) s (Operations k) told other = refl
waits_stay (Finalise by table m) s (Number n) told other = refl
waits_stay (Finalise by table m) s (Limit b) told other = refl
waits_stay (Switch by table m Clear) s found told other = refl
waits_stay (Switch by table m Open) s found told other = refl
waits_stay (Switch by table m Mark) s found told other = refl

-- A claim that is no marker of the seat is none that waits.
not_its_own : (w : ℕ) (c : ClaimOf) → (c.by ≡ w → ⊥) → is_unbarred_marker w c ≡ false
not_its_own w c other = and_left (is_marker c && (c.by == w)) (is_none c.barrier)
    (and_right (is_marker c) (c.by == w) (ne_eqb c.by w other))

-- A barrier for one seat's markers is none for another's.
others_wait : (w by g : ℕ) → w ≢ by → (cs : List ClaimOf)
    → list_any (is_unbarred_marker w) (map (barred_marker by g) cs)
    ≡ list_any (is_unbarred_marker w) cs
others_wait w by g apart [] = refl
others_wait w by g apart (c ∷ cs) =
    ap (λ (b : Bool). b || list_any (is_unbarred_marker w) (map (barred_marker by g) cs))
    (choose (is_unbarred_marker by c) refl)
    ∙ ap (λ (b : Bool). is_unbarred_marker w c || b) (others_wait w by g apart cs)
  where
    other : is_unbarred_marker by c ≡ true → c.by ≡ w → ⊥
    other h same = apart (sym same ∙ eqb-true c.by by
        (and_parts (is_marker c) (c.by == by)
        (and_parts (is_marker c && (c.by == by)) (is_none c.barrier) h).0).1)

    choose : (b : Bool) → is_unbarred_marker by c ≡ b
        → is_unbarred_marker w (cond b (record c { barrier = Some g }) c)
        ≡ is_unbarred_marker w c
    choose true h = not_its_own w (record c { barrier = Some g }) (other h)
        ∙ sym (not_its_own w c (other h))
    choose false h = refl

module _ (x : PathState) where
  or_nothing : (b : Bool) → b || false ≡ b
  or_nothing true = refl
  or_nothing false = refl

  or_true : (b : Bool) → b || true ≡ true
  or_true true = refl
  or_true false = refl

  -- A claim is added that is not the seat's waiting marker, or is.
  one_more : (w : ℕ) (c : ClaimOf) (b : Bool) → is_unbarred_marker w c ≡ b
      → list_any (is_unbarred_marker w) (x.claims ++ c ∷ [])
      ≡ list_any (is_unbarred_marker w) x.claims || b
  one_more w c b h = list_any-append (is_unbarred_marker w) x.claims (c ∷ [])
      ∙ ap (λ (b : Bool). list_any (is_unbarred_marker w) x.claims || b)
      (ap (λ (b : Bool). b || false) h ∙ or_nothing b)

  -- Claims that a step adds or changes change no waiting marker of a seat that did not make it, and
  -- of its own seat those of the two steps alone.
  claims_wait : (e : Event) (w : ℕ) → (ChangesLastMarker e → w ≢ by_of e)
      → list_any (is_unbarred_marker w) (next_of x e).claims
      ≡ list_any (is_unbarred_marker w) x.claims
  claims_wait (Claim by from to Entry) w other =
      one_more w (claim_of x.capacity by from.0 to.0 Entry) false refl
      ∙ or_nothing (list_any (is_unbarred_marker w) x.claims)
  claims_wait (Claim by from to Marker) w other =
      let c = claim_of x.capacity by from.0 to.0 Marker in
      one_more w c false (not_its_own w c (λ same. other tt (sym same)))
      ∙ or_nothing (list_any (is_unbarred_marker w) x.claims)
  claims_wait (MoveCurrent by Append group) w other =
      others_wait w by x.append.current (other tt) x.claims
  claims_wait (MoveCurrent by Write group) w other = refl
  claims_wait e w other = refl

  -- the acting seat, at any other step
  left : (e : Event) → (ChangesLastMarker e → ⊥) → WaitsAre x (by_of e) (seat_of x (by_of e))
      → WaitsAre (next_of x e) (by_of e) (own_after x e)
  left e other K = waits_stay e (seat_of x (by_of e)) (reading x (place_of e)) (told_of x e) other
      ∙ (K ∙ sym (claims_wait e (by_of e) (λ c. absurd (other c))))

  own_waits : (e : Event) → WaitsAre x (by_of e) (seat_of x (by_of e))
      → WaitsAre (next_of x e) (by_of e) (own_after x e)
  own_waits (Claim by from to Marker) K =
      let c = claim_of x.capacity by from.0 to.0 Marker in
      sym (one_more by c true (eq-eqb' by)
      ∙ or_true (list_any (is_unbarred_marker by) x.claims))
    where
      eq-eqb' : (by : ℕ) → ((by == by) && true) ≡ true
      eq-eqb' by = and_from (by == by) true (eq-eqb by by refl) refl
  own_waits (MoveCurrent by Append group) K = sym (none_waits_now by x.append.current x.claims)
  own_waits (Claim by from to Entry) K = left (Claim by from to Entry) (λ b. b) K
  own_waits (MoveCurrent by Write group) K = left (MoveCurrent by Write group) (λ b. b) K
  own_waits e K = left e (λ b. b) K

  -- Each step keeps that what seats keep of their waiting markers is so.
  pub keeps_waiting : ((w : ℕ) → WaitsAre x w (seat_of x w)) → (e : Event) → IsStep x e
      → (w : ℕ) → WaitsAre (next_of x e) w (seat_of (next_of x e) w)
  keeps_waiting K e a w = each_seat x e a.seat (λ v s. WaitsAre (next_of x e) v s)
      (own_waits e (K (by_of e)))
      (λ v apart. K v ∙ sym (claims_wait e v (λ _. apart))) w
