-- Which place the holder of a table's turn has cleared: which steps change it.
use Rattle.std.proofs.Common.{◌≡◌, ◌≢◌, ◌⊎◌, ℕ, ◌<◌, Bool, true, false, ◌&&◌, cond, Option, Some}
use Rattle.std.proofs.Common.{None, is_some, length, refl, sym, ap, ◌∙◌}
use Rattle.std.specs.Option.{option_map, option_and_then}
use Rattle.std.proofs.lemmas.Bool.{false≢true}
use Rattle.std.proofs.lemmas.Option.{none-some, same_Some}
use Rattle.std.proofs.Math.ListN.{get_or-map as get_or-map_default}
use mathlib.Core.Logic.{dite, inl, inr}
use native.Mathlib.Decide.{ℕ_discrete}
use Rattle.clog_base.specs.declared.cell.Table.{Table}
use Rattle.op_core.specs.declared.count.Order.TheVariants.{Write, Append}
use Rattle.op_core.specs.Tallies.{is_finished}
use Rattle.path_core.specs.declared.event.Carried.TheVariants.{Nothing, Deposit, Applied}
use Rattle.path_core.specs.declared.event.ClaimKind.TheVariants.{Entry, Marker}
use Rattle.path_core.specs.declared.event.Cursor.TheVariants.{Synced, OldestLive, Stopped}
use Rattle.path_core.specs.declared.event.Event.{Event}
use Rattle.path_core.specs.declared.event.Event.TheVariants.{Look, Register, Close, MoveCurrent}
use Rattle.path_core.specs.declared.event.Event.TheVariants.{Advance, Claim, Switch, Raise}
use Rattle.path_core.specs.declared.event.Event.TheVariants.{Finalise, TakeTurn, GiveTurn, Put}
use Rattle.path_core.specs.declared.event.Place.{Place}
use Rattle.path_core.specs.declared.event.Place.TheVariants.{Count, Current, Oldest, Log, Newest}
use Rattle.path_core.specs.declared.event.Place.TheVariants.{Bound, TurnWord, CursorWord}
use Rattle.path_core.specs.declared.event.Reading.{Reading}
use Rattle.path_core.specs.declared.event.Reading.TheVariants.{Operations, Number, Limit}
use Rattle.path_core.specs.declared.event.SwitchPart.TheVariants.{Clear, Open, Mark}
use Rattle.path_core.specs.declared.event.Turn.TheVariants.{Sync, Flush}
use Rattle.path_core.specs.declared.seat.FlushTurn.{FlushTurn}
use Rattle.path_core.specs.declared.seat.Seat.{Seat}
use Rattle.path_core.specs.declared.seat.SeatTable.{SeatTable}
use Rattle.path_core.specs.declared.seat.Switching.{Switching}
use Rattle.path_core.specs.declared.seat.Switching.TheVariants.{Begun, Marked as MarkedStage}
use Rattle.path_core.specs.declared.seat.Switching.TheVariants.{Waiting}
use Rattle.path_core.specs.declared.state.Bound.{Bound as BoundOf}
use Rattle.path_core.specs.declared.state.Bound.TheVariants.{Raising}
use Rattle.path_core.specs.declared.state.PathState.{PathState}
use Rattle.path_core.specs.Parts.{untouched, seat_of, seat_table, cleared_of, is_at}
use Rattle.path_core.specs.Words.{by_of, reading, place_of}
use Rattle.path_core.specs.Allowed.{IsStep}
use Rattle.path_core.specs.Next.{told_of}
use Rattle.path_core.specs.Lawful.{IsSized}
use Rattle.path_core.specs.SeatAfter.{Told, seat_after, looked, left_table, number_read, new_flush}
use Rattle.path_core.specs.SeatAfter.{place_cleared, newest_made, raised_as_writer}
use Rattle.path_core.specs.SeatAfter.{raised_as_holder, raised_stage}
use Rattle.path_core.specs.SeatParts.{at_table, in_flush, keeps, finished_found, bound_found}
use Rattle.path_core.specs.SeatParts.{raised_to, made_final, is_raising, reaches, log_found}
use Rattle.path_core.specs.SeatParts.{barrier_issued, tries_bound, begins_at, deposited_end}
use Rattle.path_core.specs.SeatParts.{has_note_of}
use Rattle.path_core.proofs.seats.Columns.{own_after, at_table_keeps, at_table_same, at_table_other}
use Rattle.path_core.proofs.seats.Columns.{seat_fits}
use Rattle.path_core.proofs.seats.TriesApart.{tries_apart, begins_apart}

abbrev pub cleared_at : SeatTable → Option ℕ
cleared_at st = option_and_then (λ (turn : FlushTurn). turn.cleared) st.flush

abbrev cleared_in : Option FlushTurn → Option ℕ
cleared_in o = option_and_then (λ (turn : FlushTurn). turn.cleared) o

-- a change of the turn that leaves it
cleared_same : (o : Option FlushTurn) (f : FlushTurn → FlushTurn)
    → ((turn : FlushTurn) → (f turn).cleared ≡ turn.cleared)
    → cleared_in (option_map f o) ≡ cleared_in o
cleared_same None f same = refl
cleared_same (Some turn) f same = same turn

-- Steps that may change it.
abbrev pub ChangesCleared : Event → Type 0
ChangesCleared (Switch by table memtable Clear) = Unit {0}
ChangesCleared (Switch by table memtable Open) = Unit {0}
ChangesCleared (TakeTurn by (Flush table)) = Unit {0}
ChangesCleared (GiveTurn by (Flush table)) = Unit {0}
ChangesCleared _ = ⊥

flush_left : (t u : ℕ) (f : FlushTurn → FlushTurn) (s : Seat)
    → ((turn : FlushTurn) → (f turn).cleared ≡ turn.cleared)
    → cleared_of (at_table t (in_flush f) s) u ≡ cleared_of s u
flush_left t u f s same = at_table_keeps t u (in_flush f) s cleared_at
    (cleared_same (seat_table s t).flush f same)

looks_left : (s : Seat) (at : Place) (found : Reading) (u : ℕ)
    → cleared_of (looked s at found) u ≡ cleared_of s u
looks_left s (Count Write group) (Operations k) u = choose (is_finished k)
  where
    choose : (b : Bool) → cleared_of (cond b (keeps Write
        (finished_found group) s) s) u ≡ cleared_of s u
    choose true = refl
    choose false = refl
looks_left s (Count Append group) (Operations k) u = choose (is_finished k)
  where
    choose : (b : Bool) → cleared_of (cond b (keeps Append
        (finished_found group) s) s) u ≡ cleared_of s u
    choose true = refl
    choose false = refl
looks_left s (Current Write) (Number n) u = refl
looks_left s (Current Append) (Number n) u = refl
looks_left s (Oldest Write) (Number n) u = refl
looks_left s (Oldest Append) (Number n) u = refl
looks_left s Log (Number n) u =
    ap cleared_at (get_or-map_default (log_found n) s.tables u untouched)
    ∙ cleared_same (seat_table s u).flush _ (λ turn. refl)
looks_left s (Newest t) (Number n) u = flush_left t.0 u _ s (λ turn. refl)
looks_left s (Bound t m) (Limit b) u = at_table_keeps t.0 u
    (λ (st : SeatTable). tries_bound (deposited_end s) m b (bound_found m b st)) s cleared_at
    (ap cleared_in (tries_apart (deposited_end s) m b (bound_found m b (seat_table s t.0))).1
    ∙ cleared_same (seat_table s t.0).flush _ (λ turn. refl))
looks_left s (TurnWord turn) (Operations k) u = refl
looks_left s (TurnWord turn) (Number n) u = refl
looks_left s (TurnWord turn) (Limit b) u = refl
looks_left s (CursorWord Synced) (Number n) u = refl
looks_left s (CursorWord (OldestLive t)) (Number n) u = at_table_keeps t.0 u
    (λ (st : SeatTable). begins_at (has_note_of s t.0) n
    (in_flush (λ (turn : FlushTurn). record turn { oldest_live = Some n }) st)) s cleared_at
    (ap cleared_in (begins_apart (has_note_of s t.0) n
    (in_flush (λ (turn : FlushTurn). record turn { oldest_live = Some n }) (seat_table s t.0))).1
    ∙ cleared_same (seat_table s t.0).flush _ (λ turn. refl))
looks_left s (CursorWord Stopped) (Number n) u = refl
looks_left s (Count order group) (Number n) u = refl
looks_left s (Count order group) (Limit b) u = refl
looks_left s (Current order) (Operations k) u = refl
looks_left s (Current order) (Limit b) u = refl
looks_left s (Oldest order) (Operations k) u = refl
looks_left s (Oldest order) (Limit b) u = refl
looks_left s at found u = refl

-- a stage that is reached where a bound is put
reaches_bound : (stage : Switching) (m : ℕ) (b : BoundOf) (st : SeatTable)
    → cleared_at (reaches stage (bound_found m b st)) ≡ cleared_at st
reaches_bound stage m b st = by st.flush
  where
    by : (o : Option FlushTurn) → cleared_in (option_map
        (λ (turn : FlushTurn). record turn { stage = stage }) (option_map
        (λ (turn : FlushTurn). record turn { bound = Some (record { memtable = m; bound = b }) })
        o)) ≡ cleared_in o
    by None = refl
    by (Some turn) = refl

raises_bound : (m to n : ℕ) (b : BoundOf) (st : SeatTable)
    → cleared_at (raised_as_holder m to (bound_found n b st)) ≡ cleared_at st
raises_bound m to n b st = by st.flush
  where
    by : (o : Option FlushTurn) → cleared_in (option_map
        (λ (turn : FlushTurn). record turn { stage = raised_stage m to turn.stage }) (option_map
        (λ (turn : FlushTurn). record turn { bound = Some (record { memtable = n; bound = b }) })
        o)) ≡ cleared_in o
    by None = refl
    by (Some turn) = refl

raises_left : (deposited : Bool) (m to : ℕ) (b : BoundOf) (st : SeatTable)
    → cleared_at (raised_as_holder m to (raised_as_writer deposited m b
    (bound_found m (raised_to to b) st))) ≡ cleared_at st
raises_left deposited m to b st =
    by (deposited && is_at st.trying m && is_raising b)
  where
    by : (c : Bool) → cleared_at (raised_as_holder m to
        (cond c (record (bound_found m (raised_to to b) st) { place = Some m })
        (bound_found m (raised_to to b) st))) ≡ cleared_at st
    by true = raises_bound m to m (raised_to to b) st
    by false = raises_bound m to m (raised_to to b) st

-- it stays
pub cleared_left : (e : Event) (s : Seat) (found : Reading) (told : Told) (u : ℕ)
    → (ChangesCleared e → ⊥) → cleared_of (seat_after s e found told) u ≡ cleared_of s u
cleared_left (Look by at) s found told u other = looks_left s at found u
cleared_left (Register by Write group) s found told u other = refl
cleared_left (Register by Append group) s found told u other = refl
cleared_left (Close by Append group (Deposit note)) s found told u other = refl
cleared_left (Close by Append group Nothing) s found told u other = refl
cleared_left (Close by Append group (Applied places)) s found told u other = refl
cleared_left (Close by Write group carried) s found told u other =
    ap cleared_at (get_or-map_default left_table s.tables u untouched)
cleared_left (MoveCurrent by Write group) s found told u other =
    ap cleared_at (get_or-map_default (barrier_issued (number_read found)) s.tables u untouched)
    ∙ cleared_same (seat_table s u).flush _ (λ turn. refl)
cleared_left (MoveCurrent by Append group) s found told u other = refl
cleared_left (Advance by Write group) s found told u other = refl
cleared_left (Advance by Append group) s found told u other = refl
cleared_left (Claim by from to Entry) s found told u other = refl
cleared_left (Claim by from to Marker) s found told u other = refl
cleared_left (Switch by table memtable Clear) s found told u other = absurd (other tt)
cleared_left (Switch by table memtable Open) s found told u other = absurd (other tt)
cleared_left (Switch by table memtable Mark) s found told u other = at_table_keeps table.0 u
    (λ (st : SeatTable). reaches
    (MarkedStage (record { memtable = memtable; key = None; raised = false }))
    (bound_found memtable (Raising (record { 0 = 0 })) st)) s cleared_at
    (reaches_bound (MarkedStage (record { memtable = memtable; key = None; raised = false }))
    memtable (Raising (record { 0 = 0 })) (seat_table s table.0))
cleared_left (Raise by table memtable to) s (Limit b) told u other = at_table_keeps table.0 u
    (λ (st : SeatTable). raised_as_holder memtable to.0
    (raised_as_writer (is_some s.note) memtable b
    (bound_found memtable (raised_to to.0 b) st))) s cleared_at
    (raises_left (is_some s.note) memtable to.0 b (seat_table s table.0))
cleared_left (Finalise by table memtable) s (Limit b) told u other = at_table_keeps table.0 u
    (λ (st : SeatTable). reaches (Waiting memtable) (bound_found memtable (made_final b) st)) s
    cleared_at (reaches_bound (Waiting memtable) memtable (made_final b) (seat_table s table.0))
cleared_left (TakeTurn by Sync) s found told u other = refl
cleared_left (TakeTurn by (Flush table)) s found told u other = absurd (other tt)
cleared_left (GiveTurn by Sync) s found told u other = refl
cleared_left (GiveTurn by (Flush table)) s found told u other = absurd (other tt)
cleared_left (Put by Synced value) s found told u other = refl
cleared_left (Put by (OldestLive table) value) s found told u other =
    flush_left table.0 u _ s (λ turn. refl)
cleared_left (Put by Stopped value) s found told u other = refl
cleared_left e s found told u other = refl

-- A step that clears the place of a memtable.
abbrev pub IsClear : Event → ℕ → ℕ → Type 0
IsClear (Switch by table n Clear) t m = (t ≡ table.0) × (m ≡ n)
IsClear _ t m = ⊥

opened_at : (m : ℕ) (st : SeatTable) → cleared_at (reaches (Begun m) (newest_made m st)) ≡ None
opened_at m st = by st.flush
  where
    by : (o : Option FlushTurn) → cleared_in (option_map
        (λ (turn : FlushTurn). record turn { stage = Begun m })
        (option_map (λ (turn : FlushTurn). record turn { newest = Some m; cleared = None }) o))
        ≡ None
    by None = refl
    by (Some turn) = refl

given_now : (o : Option FlushTurn) (n m : ℕ)
    → cleared_in (option_map (λ (turn : FlushTurn). record turn { cleared = Some n }) o) ≡ Some m
    → m ≡ n
given_now None n m h = absurd (none-some m h)
given_now (Some turn) n m h = sym (same_Some n m h)

held_now : (o : Option FlushTurn) (n : ℕ) → is_some o ≡ true
    → cleared_in (option_map (λ (turn : FlushTurn). record turn { cleared = Some n }) o) ≡ Some n
held_now None n h = absurd (false≢true h)
held_now (Some turn) n h = refl

module _ (x : PathState) (sized : IsSized x) where
  -- the acting seat's part of one table changes
  here : (w u t : ℕ) (f : SeatTable → SeatTable) → u < length x.tables → t ≡ u
      → cleared_of (at_table u f (seat_of x w)) t ≡ cleared_at (f (seat_table (seat_of x w) u))
  here w u t f inside is = ap (cleared_of (at_table u f (seat_of x w))) is
      ∙ ap cleared_at (at_table_same u f (seat_of x w) (seat_fits x sized u w inside))

  there : (w u t : ℕ) (f : SeatTable → SeatTable) → t ≢ u
      → cleared_of (at_table u f (seat_of x w)) t ≡ cleared_of (seat_of x w) t
  there w u t f far = ap cleared_at (at_table_other u t f (seat_of x w) far)

  -- What the acting seat has cleared after its step it had cleared, or the step cleared it.
  pub cleared_was : (e : Event) → IsStep x e → (t m : ℕ) → cleared_of (own_after x e) t ≡ Some m
      → (cleared_of (seat_of x (by_of e)) t ≡ Some m) ⊎ IsClear e t m
  cleared_was (Switch by table n Clear) a t m h = dite (ℕ_discrete t table.0)
      (λ is. inr (
        is,
        given_now (seat_table (seat_of x by) table.0).flush n m
            (sym (here by table.0 t (place_cleared n) a.is_there is) ∙ h),
      ))
      (λ far. inl (sym (there by table.0 t (place_cleared n) far) ∙ h))
  cleared_was (Switch by table n Open) a t m h =
      let f : SeatTable → SeatTable = λ st. reaches (Begun n) (newest_made n st) in
      dite (ℕ_discrete t table.0)
      (λ is. absurd (none-some m (sym (opened_at n (seat_table (seat_of x by) table.0))
      ∙ (sym (here by table.0 t f a.is_there is) ∙ h))))
      (λ far. inl (sym (there by table.0 t f far) ∙ h))
  cleared_was (Switch by table n Mark) a t m h = let e = Switch by table n Mark in
      inl (sym (cleared_left e (seat_of x by) (reading x (place_of e)) (told_of x e) t (λ b. b))
      ∙ h)
  cleared_was (TakeTurn by (Flush table)) a t m h =
      let f : SeatTable → SeatTable = λ st. record st { flush = Some new_flush } in
      dite (ℕ_discrete t table.0)
      (λ is. absurd (none-some m (sym (here by table.0 t f a.is_there is) ∙ h)))
      (λ far. inl (sym (there by table.0 t f far) ∙ h))
  cleared_was (TakeTurn by Sync) a t m h = inl h
  cleared_was (GiveTurn by (Flush table)) a t m h =
      let f : SeatTable → SeatTable = λ st. record st { flush = None } in
      dite (ℕ_discrete t table.0)
      (λ is. absurd (none-some m (sym (here by table.0 t f a.is_there is) ∙ h)))
      (λ far. inl (sym (there by table.0 t f far) ∙ h))
  cleared_was (GiveTurn by Sync) a t m h = inl h
  cleared_was e a t m h = inl (sym (cleared_left e (seat_of x (by_of e)) (reading x (place_of e))
      (told_of x e) t (λ b. b)) ∙ h)

  -- Who has cleared a place knows it.
  pub clears_now : (by : ℕ) (table : Table) (n : ℕ) → IsStep x (Switch by table n Clear)
      → cleared_of (own_after x (Switch by table n Clear)) table.0 ≡ Some n
  clears_now by table n a = here by table.0 table.0 (place_cleared n) a.is_there refl
      ∙ held_now (seat_table (seat_of x by) table.0).flush n a.row.0
