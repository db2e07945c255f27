-- What the steps of barriers and syncs leave, one by one and together.
use Rattle.std.proofs.Common.{◌+◌, ◌≤◌, cond, arith, ◌≡◌, ℕ, Bool, true, false, if◌then◌else◌, List}
use Rattle.std.proofs.Common.{[], ◌∷◌, ◌++◌, Option, Some, None, is_some, refl, sym, ap, ◌∙◌, subst}
use Rattle.std.proofs.Math.ListN.{get_or-map as get_or-map_default}
use Rattle.std.proofs.lemmas.List.{append_assoc}
use Rattle.std.specs.Option.{option_map, option_map_or}
use Rattle.op_core.specs.declared.count.Order.{Order}
use Rattle.op_core.specs.declared.count.Order.TheVariants.{Write, Append}
use Rattle.op_core.specs.Tallies.{is_finished}
use Rattle.path_core.specs.declared.event.ClaimKind.TheVariants.{Entry, Marker}
use Rattle.path_core.specs.declared.event.Cursor.TheVariants.{Synced, OldestLive, Stopped}
use Rattle.path_core.specs.declared.event.Event.{Event}
use Rattle.path_core.specs.declared.event.Event.TheVariants.{Look, Register, Close, OpenGroup}
use Rattle.path_core.specs.declared.event.Event.TheVariants.{MoveCurrent, Expire, Advance, Claim}
use Rattle.path_core.specs.declared.event.Event.TheVariants.{Switch, Raise, Finalise, TakeTurn}
use Rattle.path_core.specs.declared.event.Event.TheVariants.{GiveTurn, Put}
use Rattle.path_core.specs.declared.event.Place.{Place}
use Rattle.path_core.specs.declared.event.Place.TheVariants.{Count, Current, Oldest, Log, Newest}
use Rattle.path_core.specs.declared.event.Place.TheVariants.{Bound as BoundOf, TurnWord, CursorWord}
use Rattle.path_core.specs.declared.event.Reading.{Reading}
use Rattle.path_core.specs.declared.event.Reading.TheVariants.{Operations, Number, Limit}
use Rattle.path_core.specs.declared.event.Turn.TheVariants.{Sync, Flush}
use Rattle.path_core.specs.declared.seat.FoundGroups.{FoundGroups}
use Rattle.path_core.specs.declared.seat.Range.{Range}
use Rattle.path_core.specs.declared.seat.FlushTurn.{FlushTurn}
use Rattle.path_core.specs.declared.seat.Seat.{Seat}
use Rattle.path_core.specs.declared.seat.SeatTable.{SeatTable}
use Rattle.path_core.specs.declared.seat.Switching.{Switching}
use Rattle.path_core.specs.declared.seat.Switching.TheVariants.{Begun, Marked, Settled, Waiting}
use Rattle.path_core.specs.declared.seat.Switching.TheVariants.{WithBarrier}
use Rattle.path_core.specs.declared.seat.SyncTurn.{SyncTurn}
use Rattle.path_core.specs.Next.{has_filed}
use Rattle.path_core.specs.Parts.{seat_table, untouched, IsIdle}
use Rattle.path_core.specs.SeatAfter.{Told, number_read, seat_after, looked}
use Rattle.path_core.specs.SeatParts.{barrier_issued, finished_found, keeps, key_found, log_found}
use Rattle.path_core.specs.SeatParts.{with_barrier}
use Rattle.path_core.specs.Words.{place_of}
use Rattle.path_core.proofs.seats.Columns.{Columns, write_after, append_after, claim_after}
use Rattle.path_core.proofs.seats.Columns.{flush_after}
use Rattle.path_core.proofs.seats.StepColumns.{columns, FitsSeat}
use Rattle.path_rule.specs.declared.view.Hands.{Hands}
use Rattle.path_rule.specs.declared.view.OwnStep.{OwnStep}
use Rattle.path_rule.specs.declared.view.View.{View}
use Rattle.path_rule.specs.Calls.{Did, DidAs}
use Rattle.path_rule.specs.Layout.{reading_at}
use Rattle.path_rule.specs.Issued.{is_issue, issued_in}
use Rattle.path_rule.proofs.log.Issues.{issued_both}
use Rattle.path_rule.specs.Rounds.{IsRoundStep, AreRoundSteps, with_put, puts_of, IsAtRest, IsQuiet}
use Rattle.path_rule.specs.Rounds.{IsQuietStage, RoundSteps, EndsBelow, WroteBelow}
use Rattle.path_rule.specs.Rule.{told_by}
use Rattle.path_rule.proofs.seats.Staying.{none_is}

-- ---- whether the turn's holder has filed

keeps_filed : (f : SyncTurn → SyncTurn) → ((t : SyncTurn) → (f t).filed ≡ t.filed)
    → (o : Option SyncTurn) → option_map_or (λ (t : SyncTurn). t.filed) o false ≡ false
    → option_map_or (λ (t : SyncTurn). t.filed) (option_map f o) false ≡ false
keeps_filed f same None h = refl
keeps_filed f same (Some t) h = same t ∙ h

keeps_unfiled : (o : Order) (f : FoundGroups → FoundGroups) (s : Seat) → has_filed s ≡ false
    → has_filed (keeps o f s) ≡ false
keeps_unfiled Write f s h = keeps_filed _ (λ t. refl) s.sync h
keeps_unfiled Append f s h = keeps_filed _ (λ t. refl) s.sync h

look_unfiled : (w by : ℕ) (at : Place) (r : Reading) (s : Seat) → IsRoundStep w (Look by at)
    → has_filed s ≡ false → has_filed (looked s at r) ≡ false
look_unfiled w by (Count o g) (Operations k) s is h = choose (is_finished k)
  where
    choose : (b : Bool) → has_filed (if b then keeps o (finished_found g) s else s) ≡ false
    choose true = keeps_unfiled o (finished_found g) s h
    choose false = h
look_unfiled w by (Count o g) (Number n) s is h = h
look_unfiled w by (Count o g) (Limit b) s is h = h
look_unfiled w by (Current o) (Operations k) s is h = h
look_unfiled w by (Current o) (Number n) s is h = keeps_unfiled o _ s h
look_unfiled w by (Current o) (Limit b) s is h = h
look_unfiled w by (Oldest o) (Operations k) s is h = h
look_unfiled w by (Oldest o) (Number n) s is h = keeps_unfiled o _ s h
look_unfiled w by (Oldest o) (Limit b) s is h = h
look_unfiled w by Log (Operations k) s is h = h
look_unfiled w by Log (Number n) s is h = h
look_unfiled w by Log (Limit b) s is h = h
look_unfiled w by (TurnWord Sync) (Operations k) s is h = h
look_unfiled w by (TurnWord Sync) (Number n) s is h = h
look_unfiled w by (TurnWord Sync) (Limit b) s is h = h
look_unfiled w by (TurnWord (Flush t)) r s is h = absurd is
look_unfiled w by (CursorWord Synced) (Operations k) s is h = h
look_unfiled w by (CursorWord Synced) (Number n) s is h = keeps_filed _ (λ t. refl) s.sync h
look_unfiled w by (CursorWord Synced) (Limit b) s is h = h
look_unfiled w by (CursorWord Stopped) (Operations k) s is h = h
look_unfiled w by (CursorWord Stopped) (Number n) s is h = keeps_filed _ (λ t. refl) s.sync h
look_unfiled w by (CursorWord Stopped) (Limit b) s is h = h
look_unfiled w by (CursorWord (OldestLive t)) r s is h = absurd is
look_unfiled w by (Newest t) r s is h = absurd is
look_unfiled w by (BoundOf t m) r s is h = absurd is

-- ---- what the seat knows of a table whose switch is quiet

key_quiet : (n : ℕ) (k : Switching) → IsQuietStage k → key_found n k ≡ k
key_quiet n Settled q = refl
key_quiet n (Begun m) q = refl
key_quiet n (Marked k) q = absurd q
key_quiet n (Waiting m) q = absurd q
key_quiet n (WithBarrier m g) q = refl

barrier_quiet : (n : ℕ) (k : Switching) → IsQuietStage k → with_barrier n k ≡ k
barrier_quiet n Settled q = refl
barrier_quiet n (Begun m) q = refl
barrier_quiet n (Marked k) q = absurd q
barrier_quiet n (Waiting m) q = absurd q
barrier_quiet n (WithBarrier m g) q = refl

-- a stage that stays has its turn stay
turn_quiet : (f : Switching → Switching) → ((k : Switching) → IsQuietStage k → f k ≡ k)
    → (o : Option FlushTurn) → ((turn : FlushTurn) → o ≡ Some turn → IsQuietStage turn.stage)
    → option_map (λ (turn : FlushTurn). record turn { stage = f turn.stage }) o ≡ o
turn_quiet f same None quiet = refl
turn_quiet f same (Some turn) quiet = ap (λ (k : Switching). Some (record turn { stage = k }))
    (same turn.stage (quiet turn refl))

table_quiet : (f : Switching → Switching) → ((k : Switching) → IsQuietStage k → f k ≡ k)
    → (st : SeatTable) → IsQuiet st → record st {
      flush = option_map (λ (turn : FlushTurn). record turn { stage = f turn.stage }) st.flush;
    } ≡ st
table_quiet f same st quiet =
    ap (λ (o : Option FlushTurn). record st { flush = o }) (turn_quiet f same st.flush quiet)

abbrev pub StaysQuiet : Seat → Seat → Type 0
StaysQuiet s after = (t : ℕ) → IsQuiet (seat_table s t) → seat_table after t ≡ seat_table s t

keeps_quiet : (o : Order) (f : FoundGroups → FoundGroups) (s : Seat) → StaysQuiet s (keeps o f s)
keeps_quiet Write f s = λ t q. refl
keeps_quiet Append f s = λ t q. refl

look_quiet : (w by : ℕ) (at : Place) (r : Reading) (s : Seat) → IsRoundStep w (Look by at)
    → StaysQuiet s (looked s at r)
look_quiet w by (Count o g) (Operations k) s is = choose (is_finished k)
  where
    choose : (b : Bool) → StaysQuiet s (if b then keeps o (finished_found g) s else s)
    choose true = keeps_quiet o (finished_found g) s
    choose false = λ t q. refl
look_quiet w by (Count o g) (Number n) s is = λ t q. refl
look_quiet w by (Count o g) (Limit b) s is = λ t q. refl
look_quiet w by (Current o) (Operations k) s is = λ t q. refl
look_quiet w by (Current o) (Number n) s is = keeps_quiet o _ s
look_quiet w by (Current o) (Limit b) s is = λ t q. refl
look_quiet w by (Oldest o) (Operations k) s is = λ t q. refl
look_quiet w by (Oldest o) (Number n) s is = keeps_quiet o _ s
look_quiet w by (Oldest o) (Limit b) s is = λ t q. refl
look_quiet w by Log (Operations k) s is = λ t q. refl
look_quiet w by Log (Number n) s is = λ t q.
    get_or-map_default (log_found n) s.tables t untouched
    ∙ table_quiet (key_found n) (key_quiet n) (seat_table s t) q
look_quiet w by Log (Limit b) s is = λ t q. refl
look_quiet w by (TurnWord Sync) (Operations k) s is = λ t q. refl
look_quiet w by (TurnWord Sync) (Number n) s is = λ t q. refl
look_quiet w by (TurnWord Sync) (Limit b) s is = λ t q. refl
look_quiet w by (TurnWord (Flush u)) r s is = absurd is
look_quiet w by (CursorWord Synced) (Operations k) s is = λ t q. refl
look_quiet w by (CursorWord Synced) (Number n) s is = λ t q. refl
look_quiet w by (CursorWord Synced) (Limit b) s is = λ t q. refl
look_quiet w by (CursorWord Stopped) (Operations k) s is = λ t q. refl
look_quiet w by (CursorWord Stopped) (Number n) s is = λ t q. refl
look_quiet w by (CursorWord Stopped) (Limit b) s is = λ t q. refl
look_quiet w by (CursorWord (OldestLive u)) r s is = absurd is
look_quiet w by (Newest u) r s is = absurd is
look_quiet w by (BoundOf u m) r s is = absurd is

pub is_quiet : (w : ℕ) (e : Event) (s : Seat) (r : Reading) (told : Told) → IsRoundStep w e
    → StaysQuiet s (seat_after s e r told)
is_quiet w (Look by at) s r told is = look_quiet w by at r s is
is_quiet w (OpenGroup by o g) s r told is = λ t q. refl
is_quiet w (MoveCurrent by Write g) s r told is = λ t q.
    get_or-map_default (barrier_issued (number_read r)) s.tables t untouched
    ∙ table_quiet (with_barrier (number_read r)) (barrier_quiet (number_read r)) (seat_table s t)
    q
is_quiet w (MoveCurrent by Append g) s r told is = λ t q. refl
is_quiet w (Expire by o g) s r told is = λ t q. refl
is_quiet w (Advance by o g) s r told is = keeps_quiet o _ s
is_quiet w (Claim by from to Marker) s r told is = λ t q. refl
is_quiet w (TakeTurn by Sync) s r told is = λ t q. refl
is_quiet w (GiveTurn by Sync) s r told is = λ t q. refl
is_quiet w (Put by Synced value) s r told is = λ t q. refl
is_quiet w (Put by Stopped value) s r told is = λ t q. refl
is_quiet w (Register by o g) s r told is = absurd is
is_quiet w (Close by o g carried) s r told is = absurd is
is_quiet w (Claim by from to Entry) s r told is = absurd is
is_quiet w (Switch by t m part) s r told is = absurd is
is_quiet w (Raise by t m to) s r told is = absurd is
is_quiet w (Finalise by t m) s r told is = absurd is
is_quiet w (TakeTurn by (Flush t)) s r told is = absurd is
is_quiet w (GiveTurn by (Flush t)) s r told is = absurd is
is_quiet w (Put by (OldestLive t) value) s r told is = absurd is

-- ---- one step

-- a step leaves what a seat at rest has, and deposits nothing
pub record Plain (e : Event) : Type 0 where
  pub write : (g : Option ℕ) → write_after g e ≡ g
  pub append : (g : Option ℕ) → append_after g e ≡ g
  pub claim : (r : Option Range) → claim_after r e ≡ r
  pub flush : (t : ℕ) (b : Bool) → flush_after t b e ≡ b
  pub fits : (s : Seat) → FitsSeat e s
  pub below : (key : ℕ) → EndsBelow key e
  pub unfiled : (s : Seat) (r : Reading) (told : Told) → has_filed s ≡ false
      → has_filed (seat_after s e r told) ≡ false

plain : (e : Event) → ((g : Option ℕ) → write_after g e ≡ g)
    → ((g : Option ℕ) → append_after g e ≡ g) → ((r : Option Range) → claim_after r e ≡ r)
    → ((t : ℕ) (b : Bool) → flush_after t b e ≡ b) → ((s : Seat) → FitsSeat e s)
    → ((key : ℕ) → EndsBelow key e)
    → ((s : Seat) (r : Reading) (told : Told) → has_filed s ≡ false
    → has_filed (seat_after s e r told) ≡ false) → Plain e
plain e w a c f s b u = record {
  write = w;
  append = a;
  claim = c;
  flush = f;
  fits = s;
  below = b;
  unfiled = u;
}

pub is_plain : (w : ℕ) (e : Event) → IsRoundStep w e → Plain e
is_plain w (Look by at) is = plain (Look by at) (λ g. refl) (λ g. refl) (λ r. refl) (λ t b. refl)
    (λ s. tt) (λ key. tt) (λ s r told h. look_unfiled w by at r s is h)
is_plain w (OpenGroup by o g) is = plain (OpenGroup by o g) (λ g. refl) (λ g. refl) (λ r. refl)
    (λ t b. refl) (λ s. tt) (λ key. tt) (λ s r told h. keeps_filed _ (λ t. refl) s.sync h)
is_plain w (MoveCurrent by Write g) is = plain (MoveCurrent by Write g) (λ g. refl) (λ g. refl)
    (λ r. refl) (λ t b. refl) (λ s. tt) (λ key. tt)
    (λ s r told h. keeps_filed _ (λ t. refl) s.sync h)
is_plain w (MoveCurrent by Append g) is = plain (MoveCurrent by Append g) (λ g. refl) (λ g. refl)
    (λ r. refl) (λ t b. refl) (λ s. tt) (λ key. tt)
    (λ s r told h. keeps_filed _ (λ t. refl) s.sync h)
is_plain w (Expire by o g) is = plain (Expire by o g) (λ g. refl) (λ g. refl) (λ r. refl)
    (λ t b. refl) (λ s. tt) (λ key. tt) (λ s r told h. keeps_filed _ (λ t. refl) s.sync h)
is_plain w (Advance by o g) is = plain (Advance by o g) (λ g. refl) (λ g. refl) (λ r. refl)
    (λ t b. refl) (λ s. tt) (λ key. tt) (λ s r told h. keeps_unfiled o _ s h)
is_plain w (Claim by from to Marker) is = plain (Claim by from to Marker) (λ g. refl) (λ g. refl)
    (λ r. refl) (λ t b. refl) (λ s. tt) (λ key. tt)
    (λ s r told h. keeps_filed _ (λ t. refl) s.sync h)
is_plain w (TakeTurn by Sync) is = plain (TakeTurn by Sync) (λ g. refl) (λ g. refl) (λ r. refl)
    (λ t b. refl) (λ s. tt) (λ key. tt) (λ s r told h. refl)
is_plain w (GiveTurn by Sync) is = plain (GiveTurn by Sync) (λ g. refl) (λ g. refl) (λ r. refl)
    (λ t b. refl) (λ s. tt) (λ key. tt) (λ s r told h. refl)
is_plain w (Put by Synced value) is = plain (Put by Synced value) (λ g. refl) (λ g. refl)
    (λ r. refl) (λ t b. refl) (λ s. tt) (λ key. tt)
    (λ s r told h. keeps_filed _ (λ t. refl) s.sync h)
is_plain w (Put by Stopped value) is = plain (Put by Stopped value) (λ g. refl) (λ g. refl)
    (λ r. refl) (λ t b. refl) (λ s. tt) (λ key. tt)
    (λ s r told h. keeps_filed _ (λ t. refl) s.sync h)
is_plain w (Register by o g) is = absurd is
is_plain w (Close by o g carried) is = absurd is
is_plain w (Claim by from to Entry) is = absurd is
is_plain w (Switch by t m part) is = absurd is
is_plain w (Raise by t m to) is = absurd is
is_plain w (Finalise by t m) is = absurd is
is_plain w (TakeTurn by (Flush t)) is = absurd is
is_plain w (GiveTurn by (Flush t)) is = absurd is
is_plain w (Put by (OldestLive t) value) is = absurd is

pub rests_still : (e : Event) (p q : Seat) → Plain e → Columns e p q → IsAtRest p → IsAtRest q
rests_still e p q P C R = record {
  idle = record {
    write = C.write ∙ (P.write p.write ∙ R.idle.write);
    append = C.append ∙ (P.append p.append ∙ R.idle.append);
  };
  unclaimed = C.claim ∙ (P.claim p.claim ∙ R.unclaimed);
  flush = λ t. none_is (seat_table q t).flush
      (C.flush t ∙ (P.flush t (is_some (seat_table p t).flush) ∙ ap (λ o. is_some o) (R.flush t)));
}

pub idle_still : (e : Event) (p q : Seat) → Plain e → Columns e p q → IsIdle p → p.claim ≡ None
    → IsIdle q × (q.claim ≡ None)
idle_still e p q P C I free = (
  record {
    write = C.write ∙ (P.write p.write ∙ I.write);
    append = C.append ∙ (P.append p.append ∙ I.append);
  },
  C.claim ∙ (P.claim p.claim ∙ free),
)

-- where the step leaves what the seat reads of a memtable
abbrev pub one_as : (w : ℕ) (e : Event) (n : ℕ) (h : Hands) (v after : View) → IsRoundStep w e
    → DidAs v w e n h after → h.reading ≡ v.hands.reading
    → RoundSteps w (cond (is_issue e) 1 0) (with_put e []) v after
one_as w e n h v after is d reads = let P = is_plain w e is in
    let r = reading_at (place_of e) n in let told = told_by None h in record {
      steps = record { event = e; found = n; filed = None } ∷ [];
      trail = ap (λ (u : View). u.trail) d.view;
      are = (is, tt);
      issues = omega arith;
      puts_are = refl;
      rests = λ R. subst (λ (u : View). IsAtRest u.part) (sym d.view)
          (rests_still e v.part _ P (columns e v.part r told (P.fits v.part)) R);
      idles = λ I free. subst (λ (u : View). IsIdle u.part × (u.part.claim ≡ None)) (sym d.view)
          (idle_still e v.part _ P (columns e v.part r told (P.fits v.part)) I free);
      tables = λ t q. subst (λ (u : View). seat_table u.part t ≡ seat_table v.part t) (sym d.view)
          (is_quiet w e v.part r told is t q);
      reading = ap (λ (u : View). u.hands.reading) d.view ∙ reads;
      unfiled = λ U. subst (λ (u : View). has_filed u.part ≡ false) (sym d.view)
          (P.unfiled v.part r told U);
      returned = ap (λ (u : View). u.returned) d.view;
      size = ap (λ (u : View). u.size) d.view;
    }

abbrev pub one : (w : ℕ) (e : Event) (n : ℕ) (v after : View) → IsRoundStep w e
    → Did v w e n after → RoundSteps w (cond (is_issue e) 1 0) (with_put e []) v after
one w e n v after is d =
    one_as w e n v.hands v after is (record { view = d.view; was = d.was }) refl

-- ---- steps together

pub none_yet : (w : ℕ) (v after : View) → after ≡ v → RoundSteps w 0 [] v after
none_yet w v after same = record {
  steps = [];
  trail = ap (λ (u : View). u.trail) same;
  are = tt;
  issues = omega arith;
  puts_are = refl;
  rests = λ R. subst (λ (u : View). IsAtRest u.part) (sym same) R;
  idles = λ I free. subst (λ (u : View). IsIdle u.part × (u.part.claim ≡ None)) (sym same)
      (I, free);
  tables = λ t q. ap (λ (u : View). seat_table u.part t) same;
  reading = ap (λ (u : View). u.hands.reading) same;
  unfiled = λ U. subst (λ (u : View). has_filed u.part ≡ false) (sym same) U;
  returned = ap (λ (u : View). u.returned) same;
  size = ap (λ (u : View). u.size) same;
}

pub are_both : (w : ℕ) (ts us : List OwnStep) → AreRoundSteps w ts → AreRoundSteps w us
    → AreRoundSteps w (ts ++ us)
are_both w [] us A B = B
are_both w (t ∷ ts) us A B = (A.0, are_both w ts us A.1 B)

put_on : (e : Event) (ps qs : List Event) → with_put e (ps ++ qs) ≡ with_put e ps ++ qs
put_on (Look by at) ps qs = refl
put_on (Register by o g) ps qs = refl
put_on (Close by o g carried) ps qs = refl
put_on (OpenGroup by o g) ps qs = refl
put_on (MoveCurrent by o g) ps qs = refl
put_on (Expire by o g) ps qs = refl
put_on (Advance by o g) ps qs = refl
put_on (Claim by from to what) ps qs = refl
put_on (Switch by t m part) ps qs = refl
put_on (Raise by t m to) ps qs = refl
put_on (Finalise by t m) ps qs = refl
put_on (TakeTurn by turn) ps qs = refl
put_on (GiveTurn by turn) ps qs = refl
put_on (Put by cursor value) ps qs = refl

pub puts_both : (ts us : List OwnStep) → puts_of (ts ++ us) ≡ puts_of ts ++ puts_of us
puts_both [] us = refl
puts_both (t ∷ ts) us =
    ap (with_put t.event) (puts_both ts us) ∙ put_on t.event (puts_of ts) (puts_of us)

abbrev pub both : {a b : ℕ} (w : ℕ) (ps qs : List Event) (v u after : View)
    → RoundSteps w a ps v u → RoundSteps w b qs u after → RoundSteps w (b + a) (qs ++ ps) v after
both w ps qs v u after A B = record {
  steps = B.steps ++ A.steps;
  trail = B.trail ∙ (ap (λ l. B.steps ++ l) A.trail
      ∙ sym (append_assoc B.steps A.steps v.trail));
  are = are_both w B.steps A.steps B.are A.are;
  issues = (let all = issued_both B.steps A.steps in let first = A.issues in
      let more = B.issues in omega (arith, all, first, more));
  puts_are = puts_both B.steps A.steps
      ∙ (ap (λ l. l ++ puts_of A.steps) B.puts_are ∙ ap (λ l. qs ++ l) A.puts_are);
  rests = λ R. B.rests (A.rests R);
  idles = λ I free. let first = A.idles I free in B.idles first.0 first.1;
  tables = λ t q. B.tables t (subst (λ (st : SeatTable). IsQuiet st) (sym (A.tables t q)) q)
      ∙ A.tables t q;
  reading = B.reading ∙ A.reading;
  unfiled = λ U. B.unfiled (A.unfiled U);
  returned = B.returned ∙ A.returned;
  size = B.size ∙ A.size;
}

-- the same steps, where what they put is told otherwise
abbrev pub renamed : {n : ℕ} (w : ℕ) (ps qs : List Event) (v after : View) → ps ≡ qs
    → RoundSteps w n ps v after → RoundSteps w n qs v after
renamed w ps qs v after same A = record {
  steps = A.steps;
  trail = A.trail;
  are = A.are;
  issues = A.issues;
  puts_are = A.puts_are ∙ same;
  rests = A.rests;
  idles = A.idles;
  tables = A.tables;
  reading = A.reading;
  unfiled = A.unfiled;
  returned = A.returned;
  size = A.size;
}

-- what a seat wrote stays below a key
pub wrote_still : (w key : ℕ) (ts us : List OwnStep) → AreRoundSteps w ts → WroteBelow key us
    → WroteBelow key (ts ++ us)
wrote_still w key [] us A B = B
wrote_still w key (t ∷ ts) us A B =
    ((is_plain w t.event A.0).below key, wrote_still w key ts us A.1 B)

pub still_wrote : {n : ℕ} (w key : ℕ) (puts : List Event) (v after : View)
    → RoundSteps w n puts v after
    → WroteBelow key v.trail → WroteBelow key after.trail
still_wrote w key puts v after S B =
    subst (λ l. WroteBelow key l) (sym S.trail) (wrote_still w key S.steps v.trail S.are B)

-- the same, where the number of the seat is told anew
pub next : {a b : ℕ} (w z : ℕ) (ps qs : List Event) (v u after : View) → z ≡ w
    → RoundSteps w a ps v u → RoundSteps z b qs u after → RoundSteps w (b + a) (qs ++ ps) v after
next {b = b} w z ps qs v u after same A B =
    both w ps qs v u after A (subst (λ k. RoundSteps k b qs u after) same B)

-- the same steps, where the number and the view before are told otherwise
pub from : {n : ℕ} (w z : ℕ) (ps : List Event) (v u after : View) → z ≡ w → u ≡ v
    → RoundSteps z n ps u after → RoundSteps w n ps v after
from {n = n} w z ps v u after number view A =
    subst (λ (x : View). RoundSteps w n ps x after) view
    (subst (λ k. RoundSteps k n ps u after) number A)

-- how many barriers the seat has issued then
pub issued_by : {n : ℕ} (w : ℕ) (puts : List Event) (v after : View) → RoundSteps w n puts v after
    → issued_in after.trail ≤ n + issued_in v.trail
issued_by w puts v after S = let all = ap issued_in S.trail in
    let both = issued_both S.steps v.trail in let few = S.issues in omega (arith, all, both, few)

-- the same steps, where more may be of that kind
abbrev pub at_most : {a b : ℕ} (w : ℕ) (ps : List Event) (v after : View) → a ≤ b
    → RoundSteps w a ps v after → RoundSteps w b ps v after
at_most w ps v after up A = record {
  steps = A.steps;
  trail = A.trail;
  are = A.are;
  issues = (let few = A.issues in omega (arith, few, up));
  puts_are = A.puts_are;
  rests = A.rests;
  idles = A.idles;
  tables = A.tables;
  reading = A.reading;
  unfiled = A.unfiled;
  returned = A.returned;
  size = A.size;
}
