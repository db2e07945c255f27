-- What a seat tries at a table, and where its write has its place: which steps change it.
use Rattle.std.proofs.Common.{◌≡◌, ℕ, Bool, true, false, cond, Option, Some, None, refl, ap}
use Rattle.std.proofs.Math.ListN.{get_or-map as get_or-map_default}
use Rattle.op_core.specs.declared.count.Order.TheVariants.{Write, Append}
use Rattle.path_core.specs.declared.event.Carried.TheVariants.{Nothing, Deposit, Applied}
use Rattle.path_core.specs.declared.event.ClaimKind.TheVariants.{Entry, Marker}
use Rattle.path_core.specs.declared.event.Cursor.TheVariants.{Synced, OldestLive, Stopped}
use Rattle.path_core.specs.declared.event.Event.{Event}
use Rattle.path_core.specs.declared.event.Event.TheVariants.{
  Look,
  Register,
  Close,
  MoveCurrent,
  Advance,
  Claim,
  Switch,
  Raise,
  Finalise,
  TakeTurn,
  GiveTurn,
  Put,
}
use Rattle.path_core.specs.declared.event.Place.{Place}
use Rattle.path_core.specs.declared.event.Place.TheVariants.{
  Count,
  Current,
  Oldest,
  Log,
  Newest,
  Bound,
  TurnWord,
  CursorWord,
}
use Rattle.path_core.specs.declared.event.Reading.{Reading}
use Rattle.path_core.specs.declared.event.Reading.TheVariants.{Operations, Number, Limit}
use Rattle.path_core.specs.declared.event.SwitchPart.TheVariants.{Clear, Open, Mark}
use Rattle.path_core.specs.declared.event.Turn.TheVariants.{Sync, Flush}
use Rattle.path_core.specs.declared.seat.FlushTurn.{FlushTurn}
use Rattle.path_core.specs.declared.seat.Seat.{Seat}
use Rattle.path_core.specs.declared.seat.SeatTable.{SeatTable}
use Rattle.path_core.specs.declared.seat.Switching.TheVariants.{
  Begun,
  Marked as MarkedStage,
  Waiting,
}
use Rattle.path_core.specs.Parts.{untouched, seat_table}
use Rattle.path_core.specs.declared.state.Bound.TheVariants.{Raising}
use Rattle.path_core.specs.SeatAfter.{
  Told,
  seat_after,
  looked,
  number_read,
  new_flush,
  place_cleared,
  newest_made,
}
use Rattle.path_core.specs.SeatParts.{
  at_table,
  in_flush,
  keeps,
  finished_found,
  bound_found,
  log_found,
  made_final,
  reaches,
  barrier_issued,
}
use Rattle.path_core.proofs.seats.Columns.{at_table_keeps}
use Rattle.op_core.specs.Tallies.{is_finished}

abbrev pub tried_in : SeatTable → Option ℕ × Option ℕ
tried_in st = (st.trying, st.place)

-- Steps that may change what a seat tries.
abbrev pub ChangesTry : Event → Type 0
ChangesTry (Look by (Bound t m)) = Unit {0}
ChangesTry (Look by (CursorWord (OldestLive t))) = Unit {0}
ChangesTry (Raise by table memtable to) = Unit {0}
ChangesTry (Close by Write group carried) = Unit {0}
ChangesTry _ = ⊥

flush_tries : (t u : ℕ) (f : FlushTurn → FlushTurn) (s : Seat)
    → tried_in (seat_table (at_table t (in_flush f) s) u) ≡ tried_in (seat_table s u)
flush_tries t u f s = at_table_keeps t u (in_flush f) s tried_in refl

looks_try : (s : Seat) (at : Place) (found : Reading) (u by : ℕ) → (ChangesTry (Look by at) → ⊥)
    → tried_in (seat_table (looked s at found) u) ≡ tried_in (seat_table s u)
looks_try s (Count Write group) (Operations k) u by other = choose (is_finished k)
  where
    choose : (b : Bool) → tried_in (seat_table (cond b (keeps Write (finished_found group) s) s) u)
        ≡ tried_in (seat_table s u)
    choose true = refl
    choose false = refl
looks_try s (Count Append group) (Operations k) u by other = choose (is_finished k)
  where
    choose : (b : Bool) → tried_in (seat_table (cond b (keeps Append (finished_found group) s) s) u)
        ≡ tried_in (seat_table s u)
    choose true = refl
    choose false = refl
looks_try s (Current Write) (Number n) u by other = refl
looks_try s (Current Append) (Number n) u by other = refl
looks_try s (Oldest Write) (Number n) u by other = refl
looks_try s (Oldest Append) (Number n) u by other = refl
looks_try s Log (Number n) u by other =
    ap tried_in (get_or-map_default (log_found n) s.tables u untouched)
looks_try s (Newest t) (Number n) u by other = flush_tries t.0 u _ s
looks_try s (Bound t m) found u by other = absurd (other tt)
looks_try s (TurnWord turn) (Operations k) u by other = refl
looks_try s (TurnWord turn) (Number n) u by other = refl
looks_try s (TurnWord turn) (Limit b) u by other = refl
looks_try s (CursorWord Synced) (Number n) u by other = refl
looks_try s (CursorWord (OldestLive t)) found u by other = absurd (other tt)
looks_try s (CursorWord Stopped) (Number n) u by other = refl
looks_try s (Count order group) (Number n) u by other = refl
looks_try s (Count order group) (Limit b) u by other = refl
looks_try s (Current order) (Operations k) u by other = refl
looks_try s (Current order) (Limit b) u by other = refl
looks_try s (Oldest order) (Operations k) u by other = refl
looks_try s (Oldest order) (Limit b) u by other = refl
looks_try s at found u by other = refl

-- what is tried stays
pub tries_same : (e : Event) (s : Seat) (found : Reading) (told : Told) (u : ℕ)
    → (ChangesTry e → ⊥)
    → tried_in (seat_table (seat_after s e found told) u) ≡ tried_in (seat_table s u)
tries_same (Look by at) s found told u other = looks_try s at found u by other
tries_same (Register by Write group) s found told u other = refl
tries_same (Register by Append group) s found told u other = refl
tries_same (Close by Append group (Deposit note)) s found told u other = refl
tries_same (Close by Append group Nothing) s found told u other = refl
tries_same (Close by Append group (Applied places)) s found told u other = refl
tries_same (Close by Write group carried) s found told u other = absurd (other tt)
tries_same (MoveCurrent by Write group) s found told u other =
    ap tried_in (get_or-map_default (barrier_issued (number_read found)) s.tables u untouched)
tries_same (MoveCurrent by Append group) s found told u other = refl
tries_same (Advance by Write group) s found told u other = refl
tries_same (Advance by Append group) s found told u other = refl
tries_same (Claim by from to Entry) s found told u other = refl
tries_same (Claim by from to Marker) s found told u other = refl
tries_same (Switch by table memtable Clear) s found told u other =
    at_table_keeps table.0 u (place_cleared memtable) s tried_in refl
tries_same (Switch by table memtable Open) s found told u other = at_table_keeps table.0 u
    (λ (st : SeatTable). reaches (Begun memtable) (newest_made memtable st)) s tried_in refl
tries_same (Switch by table memtable Mark) s found told u other = at_table_keeps table.0 u
    (λ (st : SeatTable). reaches
    (MarkedStage (record { memtable = memtable; key = None; raised = false }))
    (bound_found memtable (Raising (record { 0 = 0 })) st)) s tried_in refl
tries_same (Raise by table memtable to) s found told u other = absurd (other tt)
tries_same (Finalise by table memtable) s (Limit b) told u other = at_table_keeps table.0 u
    (λ (st : SeatTable). reaches (Waiting memtable) (bound_found memtable (made_final b) st)) s
    tried_in refl
tries_same (TakeTurn by Sync) s found told u other = refl
tries_same (TakeTurn by (Flush table)) s found told u other = at_table_keeps table.0 u
    (λ (st : SeatTable). record st { flush = Some new_flush }) s tried_in refl
tries_same (GiveTurn by Sync) s found told u other = refl
tries_same (GiveTurn by (Flush table)) s found told u other = at_table_keeps table.0 u
    (λ (st : SeatTable). record st { flush = None }) s tried_in refl
tries_same (Put by Synced value) s found told u other = refl
tries_same (Put by (OldestLive table) value) s found told u other = flush_tries table.0 u _ s
tries_same (Put by Stopped value) s found told u other = refl
tries_same e s found told u other = refl
