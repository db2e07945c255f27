-- A step changes what stands at its own place alone, and the part of its own seat alone.
use Rattle.std.proofs.Common.{
  ◌≡◌,
  ◌≢◌,
  ℕ,
  ◌<◌,
  Bool,
  true,
  false,
  Some,
  refl,
  sym,
  ap,
  ◌∙◌,
  subst,
  arith,
  get_or-set_same,
  get_or-set_other,
}
use Rattle.op_core.specs.declared.count.Order.TheVariants.{Write, Append}
use Rattle.op_core.specs.Tallies.{tally_at, one_more, one_less, expired}
use Rattle.path_core.specs.declared.event.Cursor.TheVariants.{Synced, OldestLive, Stopped}
use Rattle.path_core.specs.declared.event.Event.{Event}
use Rattle.path_core.specs.declared.event.Event.TheVariants.{
  Look,
  Register,
  Close,
  OpenGroup,
  MoveCurrent,
  Expire,
  Advance,
  Claim,
  Switch,
  Raise,
  Finalise,
  TakeTurn,
  GiveTurn,
  Put,
}
use Rattle.path_core.specs.declared.event.Place.{Place}
use Rattle.path_core.specs.declared.event.Place.TheVariants.{
  Count,
  Current,
  Oldest,
  Log,
  Newest,
  Bound,
  TurnWord,
  CursorWord,
}
use Rattle.path_core.specs.declared.event.Reading.TheVariants.{Operations, Number, Limit}
use Rattle.path_core.specs.declared.event.SwitchPart.TheVariants.{Clear, Open, Mark}
use Rattle.path_core.specs.declared.event.Turn.{Turn}
use Rattle.path_core.specs.declared.seat.Seat.{Seat}
use Rattle.path_core.specs.declared.state.Bound.TheVariants.{Raising}
use Rattle.path_core.specs.declared.state.Memtable.{Memtable}
use Rattle.path_core.specs.declared.state.PathState.{PathState}
use Rattle.path_core.specs.declared.state.TableState.{TableState}
use Rattle.path_core.specs.Parts.{fresh_seat, fresh_table, seat_of, table_of, holds_turn}
use Rattle.path_core.specs.Words.{reading, by_of, place_of}
use Rattle.path_core.specs.SeatParts.{raised_to, made_final}
use Rattle.path_core.specs.Allowed.{IsStep}
use Rattle.path_core.specs.Next.{next_of, with_bound, log_after, synced_after, stopped_after}
use Rattle.path_core.specs.Frame.{left_by}
use Rattle.path_core.specs.Lawful.{IsLawfulPath}
use Rattle.path_core.proofs.orders.OtherSteps.{columns_of}
use Rattle.path_core.proofs.tables.TableBounds.{past_is_live}
use Rattle.path_core.proofs.seats.Columns.{own_after, Columns, each_seat}
use Rattle.path_core.proofs.places.AtRest.{opens_new}
use Rattle.path_core.proofs.runs.Sizes.{as_many_seats}
use Rattle.path_core.proofs.frame.Groups.{
  count_left,
  current_left,
  oldest_left,
  count_here,
  opened_here,
}
use Rattle.path_core.proofs.frame.Tables.{newest_left, live_left, bound_left, changed_here}
use Rattle.path_core.proofs.frame.Turns.{
  turn_left,
  look_leaves_turn,
  held_word,
  unheld_word,
  taken_here,
  given_here,
}

pub other_seat : (x : PathState) (e : Event) (w : ℕ) → w ≢ by_of e
    → seat_of (next_of x e) w ≡ seat_of x w
other_seat x e w n = get_or-set_other x.seats (by_of e) w (own_after x e) fresh_seat n

pub columns : (x : PathState) → IsLawfulPath x → (e : Event) → IsStep x e
    → Columns e (seat_of x (by_of e)) (own_after x e)
columns x L e a = columns_of x L.sized L.orders e a.is_there

log_left : (log : ℕ) (e : Event) → Log ≢ place_of e → log_after log e ≡ log
log_left log (Claim by from to what) n = absurd (n refl)
log_left log e n = refl

synced_left : (synced : ℕ) (e : Event) → CursorWord Synced ≢ place_of e
    → synced_after synced e ≡ synced
synced_left synced (Put by Synced v) n = absurd (n refl)
synced_left synced (Put by Stopped v) n = refl
synced_left synced (Put by (OldestLive t) v) n = refl
synced_left synced e n = refl

stopped_left : (stopped : ℕ) (e : Event) → CursorWord Stopped ≢ place_of e
    → stopped_after stopped e ≡ stopped
stopped_left stopped (Put by Stopped v) n = absurd (n refl)
stopped_left stopped (Put by Synced v) n = refl
stopped_left stopped (Put by (OldestLive t) v) n = refl
stopped_left stopped e n = refl

-- What stands elsewhere stays.
pub same_elsewhere : (x : PathState) → IsLawfulPath x → (e : Event) → IsStep x e → (at : Place)
    → at ≢ place_of e → reading (next_of x e) at ≡ reading x at
same_elsewhere x L e a (Count Write g) n = ap Operations (count_left Write x.write e g n)
same_elsewhere x L e a (Count Append g) n = ap Operations (count_left Append x.append e g n)
same_elsewhere x L e a (Current Write) n = ap Number (current_left Write x.write e n)
same_elsewhere x L e a (Current Append) n = ap Number (current_left Append x.append e n)
same_elsewhere x L e a (Oldest Write) n = ap Number (oldest_left Write x.write e n)
same_elsewhere x L e a (Oldest Append) n = ap Number (oldest_left Append x.append e n)
same_elsewhere x L e a Log n = ap Number (log_left x.log e n)
same_elsewhere x L e a (Newest t) n = ap Number (newest_left x e a t n)
same_elsewhere x L e a (Bound t m) n = ap Limit (bound_left x e a t m n)
same_elsewhere x L e a (TurnWord turn) n = turn_left x e (columns x L e a) a.seat turn n
same_elsewhere x L e a (CursorWord Synced) n = ap Number (synced_left x.synced e n)
same_elsewhere x L e a (CursorWord Stopped) n = ap Number (stopped_left x.stopped e n)
same_elsewhere x L e a (CursorWord (OldestLive t)) n = ap Number (live_left x e a t n)

-- a turn that the one holder gives back is nobody's
nobody_holds : (x : PathState) (L : IsLawfulPath x) (by : ℕ) (turn : Turn)
    (a : IsStep x (GiveTurn by turn)) (w : ℕ)
    → holds_turn (seat_of (next_of x (GiveTurn by turn)) w) turn ≡ false
nobody_holds x L by turn a w =
    each_seat x (GiveTurn by turn) a.seat (λ _ s. holds_turn s turn ≡ false)
    (given_here x by turn (columns x L (GiveTurn by turn) a))
    (λ v n. other v n (holds_turn (seat_of x v) turn) refl) w
  where
    other : (v : ℕ) → v ≢ by → (b : Bool) → holds_turn (seat_of x v) turn ≡ b
        → holds_turn (seat_of x v) turn ≡ false
    other v n false e = e
    other v n true e = absurd (n (L.orders.one_holder_a_turn.one turn v by e a.row.0))

-- a look leaves all words
pub look_reads : (x : PathState) → IsLawfulPath x → (by : ℕ) (at p : Place)
    → IsStep x (Look by at) → reading (next_of x (Look by at)) p ≡ reading x p
look_reads x L by at (Count Write g) a = refl
look_reads x L by at (Count Append g) a = refl
look_reads x L by at (Current Write) a = refl
look_reads x L by at (Current Append) a = refl
look_reads x L by at (Oldest Write) a = refl
look_reads x L by at (Oldest Append) a = refl
look_reads x L by at Log a = refl
look_reads x L by at (Newest t) a = refl
look_reads x L by at (Bound t m) a = refl
look_reads x L by at (CursorWord Synced) a = refl
look_reads x L by at (CursorWord Stopped) a = refl
look_reads x L by at (CursorWord (OldestLive t)) a = refl
look_reads x L by at (TurnWord turn) a =
    look_leaves_turn x by at (columns x L (Look by at) a) a.seat turn

-- At its own place stands what the step makes of what stood there.
pub left_here : (x : PathState) → IsLawfulPath x → (e : Event) → IsStep x e
    → reading (next_of x e) (place_of e) ≡ left_by e (reading x (place_of e))
left_here x L (Register by Write g) a =
    ap Operations (count_here x.write.tallies g (one_more (tally_at x.write.tallies g)) a.is_there)
left_here x L (Register by Append g) a =
    ap Operations
    (count_here x.append.tallies g (one_more (tally_at x.append.tallies g)) a.is_there)
left_here x L (Close by Write g c) a =
    ap Operations (count_here x.write.tallies g (one_less (tally_at x.write.tallies g)) a.is_there)
left_here x L (Close by Append g c) a =
    ap Operations
    (count_here x.append.tallies g (one_less (tally_at x.append.tallies g)) a.is_there)
left_here x L (Expire by Write g) a =
    ap Operations (count_here x.write.tallies g (expired (tally_at x.write.tallies g)) a.is_there)
left_here x L (Expire by Append g) a =
    ap Operations (count_here x.append.tallies g (expired (tally_at x.append.tallies g)) a.is_there)
left_here x L (OpenGroup by Write g) a =
    let new = opens_new x L.sized L.orders by Write g a in
    ap Operations (opened_here x.write.tallies g (omega arith))
left_here x L (OpenGroup by Append g) a =
    let new = opens_new x L.sized L.orders by Append g a in
    ap Operations (opened_here x.append.tallies g (omega arith))
left_here x L (MoveCurrent by Write g) a = refl
left_here x L (MoveCurrent by Append g) a = refl
left_here x L (Advance by Write g) a = refl
left_here x L (Advance by Append g) a = refl
left_here x L (Claim by from to what) a = refl
left_here x L (Switch by t m Clear) a =
    ap Limit (past_is_live x.log (table_of x t.0) (L.switches.tables t.0) m
    (let up = a.row.2 in omega arith))
left_here x L (Switch by t m Open) a =
    ap (λ (y : TableState). Number y.newest)
    (get_or-set_same x.tables t.0 _ fresh_table a.is_there)
left_here x L (Switch by t m Mark) a =
    ap Limit (changed_here x t.0 m (λ (y : Memtable). record y {
      bound = Raising (record { 0 = 0 });
      mark = Some x.log;
    }) a.is_there.0 a.is_there.1)
left_here x L (Raise by t m to) a =
    ap Limit (changed_here x t.0 m (with_bound (raised_to to.0)) a.is_there.0 a.is_there.1)
left_here x L (Finalise by t m) a =
    ap Limit (changed_here x t.0 m (with_bound made_final) a.is_there.0 a.is_there.1)
left_here x L (TakeTurn by turn) a =
    held_word (next_of x (TakeTurn by turn)) turn by
    (subst (λ n. by < n) (sym (as_many_seats x (TakeTurn by turn))) a.seat)
    (ap (λ (s : Seat). holds_turn s turn)
    (get_or-set_same x.seats by (own_after x (TakeTurn by turn)) fresh_seat a.seat)
    ∙ taken_here x by turn (columns x L (TakeTurn by turn) a))
left_here x L (GiveTurn by turn) a =
    unheld_word (next_of x (GiveTurn by turn)) turn (nobody_holds x L by turn a)
left_here x L (Put by Synced v) a = refl
left_here x L (Put by Stopped v) a = refl
left_here x L (Put by (OldestLive t) v) a =
    ap (λ (y : TableState). Number y.oldest_live)
    (get_or-set_same x.tables t.0 _ fresh_table a.is_there)
left_here x L (Look by at) a = look_reads x L by at at a
