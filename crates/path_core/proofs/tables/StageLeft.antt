-- The stage of a switch: which steps may change it, and that all others leave it.
use Rattle.std.proofs.Common.{
  ◌≡◌,
  ℕ,
  Bool,
  true,
  false,
  cond,
  Option,
  Some,
  None,
  refl,
  sym,
  ap,
  ◌∙◌,
  subst,
}
use Rattle.std.specs.Option.{option_map}
use Rattle.std.proofs.Math.ListN.{get_or-map as get_or-map_default}
use Rattle.op_core.specs.declared.count.Order.TheVariants.{Write, Append}
use Rattle.path_core.specs.declared.event.Carried.TheVariants.{Nothing, Deposit, Applied}
use Rattle.path_core.specs.declared.event.ClaimKind.TheVariants.{Entry, Marker}
use Rattle.path_core.specs.declared.event.Cursor.TheVariants.{Synced, OldestLive, Stopped}
use Rattle.path_core.specs.declared.event.Event.{Event}
use Rattle.path_core.specs.declared.event.Event.TheVariants.{
  Look,
  Register,
  Close,
  MoveCurrent,
  Advance,
  Claim,
  Switch,
  Raise,
  Finalise,
  TakeTurn,
  GiveTurn,
  Put,
}
use Rattle.path_core.specs.declared.event.Place.{Place}
use Rattle.path_core.specs.declared.event.Place.TheVariants.{
  Count,
  Current,
  Oldest,
  Log,
  Newest,
  Bound,
  TurnWord,
  CursorWord,
}
use Rattle.path_core.specs.declared.event.Reading.{Reading}
use Rattle.path_core.specs.declared.event.Reading.TheVariants.{Operations, Number, Limit}
use Rattle.path_core.specs.declared.event.SwitchPart.TheVariants.{Clear, Open, Mark}
use Rattle.path_core.specs.declared.event.Turn.TheVariants.{Sync, Flush}
use Rattle.path_core.specs.declared.seat.FlushTurn.{FlushTurn}
use Rattle.path_core.specs.declared.seat.Seat.{Seat}
use Rattle.path_core.specs.declared.seat.SeatTable.{SeatTable}
use Rattle.path_core.specs.declared.seat.Switching.{Switching}
use Rattle.path_core.specs.Parts.{untouched, seat_table, stage_of}
use Rattle.path_core.specs.SeatAfter.{Told, seat_after, looked, left_table}
use Rattle.path_core.specs.SeatParts.{
  at_table,
  in_flush,
  keeps,
  finished_found,
  bound_found,
  tries_bound,
  begins_at,
  deposited_end,
  has_note_of,
}
use Rattle.path_core.proofs.seats.Columns.{at_table_keeps}
use Rattle.op_core.specs.Tallies.{is_finished}
use Rattle.path_core.proofs.seats.TriesApart.{tries_apart, begins_apart}

abbrev pub stage_at : SeatTable → Option Switching
stage_at st = option_map (λ (turn : FlushTurn). turn.stage) st.flush

-- a change of the turn that leaves the stage
pub stage_same : (o : Option FlushTurn) (f : FlushTurn → FlushTurn)
    → ((turn : FlushTurn) → (f turn).stage ≡ turn.stage)
    → option_map (λ (turn : FlushTurn). turn.stage) (option_map f o)
    ≡ option_map (λ (turn : FlushTurn). turn.stage) o
stage_same None f same = refl
stage_same (Some turn) f same = ap Some (same turn)

-- Steps that may change the stage of a switch.
abbrev pub ChangesStage : Event → Type 0
ChangesStage (Look by Log) = Unit {0}
ChangesStage (MoveCurrent by Write group) = Unit {0}
ChangesStage (Switch by table memtable Open) = Unit {0}
ChangesStage (Switch by table memtable Mark) = Unit {0}
ChangesStage (Raise by table memtable to) = Unit {0}
ChangesStage (Finalise by table memtable) = Unit {0}
ChangesStage (TakeTurn by (Flush table)) = Unit {0}
ChangesStage (GiveTurn by (Flush table)) = Unit {0}
ChangesStage _ = ⊥

flush_left : (t u : ℕ) (f : FlushTurn → FlushTurn) (s : Seat)
    → ((turn : FlushTurn) → (f turn).stage ≡ turn.stage)
    → stage_of (at_table t (in_flush f) s) u ≡ stage_of s u
flush_left t u f s same = at_table_keeps t u (in_flush f) s stage_at
    (stage_same (seat_table s t).flush f same)

looks_left : (s : Seat) (at : Place) (found : Reading) (u : ℕ) → (at ≡ Log → ⊥)
    → stage_of (looked s at found) u ≡ stage_of s u
looks_left s (Count Write group) (Operations k) u other = choose (is_finished k)
  where
    choose : (b : Bool) → stage_of (cond b (keeps Write
        (finished_found group) s) s) u ≡ stage_of s u
    choose true = refl
    choose false = refl
looks_left s (Count Append group) (Operations k) u other = choose (is_finished k)
  where
    choose : (b : Bool) → stage_of (cond b (keeps Append
        (finished_found group) s) s) u ≡ stage_of s u
    choose true = refl
    choose false = refl
looks_left s (Current Write) (Number n) u other = refl
looks_left s (Current Append) (Number n) u other = refl
looks_left s (Oldest Write) (Number n) u other = refl
looks_left s (Oldest Append) (Number n) u other = refl
looks_left s Log found u other = absurd (other refl)
looks_left s (Newest t) (Number n) u other = flush_left t.0 u _ s (λ turn. refl)
looks_left s (Bound t m) (Limit b) u other = at_table_keeps t.0 u
    (λ (st : SeatTable). tries_bound (deposited_end s) m b (bound_found m b st)) s stage_at
    (ap (option_map (λ (turn : FlushTurn). turn.stage))
    (tries_apart (deposited_end s) m b (bound_found m b (seat_table s t.0))).1
    ∙ stage_same (seat_table s t.0).flush _ (λ turn. refl))
looks_left s (TurnWord turn) (Operations k) u other = refl
looks_left s (TurnWord turn) (Number n) u other = refl
looks_left s (TurnWord turn) (Limit b) u other = refl
looks_left s (CursorWord Synced) (Number n) u other = refl
looks_left s (CursorWord (OldestLive t)) (Number n) u other = at_table_keeps t.0 u
    (λ (st : SeatTable). begins_at (has_note_of s t.0) n
    (in_flush (λ (turn : FlushTurn). record turn { oldest_live = Some n }) st)) s stage_at
    (ap (option_map (λ (turn : FlushTurn). turn.stage))
    (begins_apart (has_note_of s t.0) n
    (in_flush (λ (turn : FlushTurn). record turn { oldest_live = Some n }) (seat_table s t.0))).1
    ∙ stage_same (seat_table s t.0).flush _ (λ turn. refl))
looks_left s (CursorWord Stopped) (Number n) u other = refl
looks_left s (Count order group) (Number n) u other = refl
looks_left s (Count order group) (Limit b) u other = refl
looks_left s (Current order) (Operations k) u other = refl
looks_left s (Current order) (Limit b) u other = refl
looks_left s (Oldest order) (Operations k) u other = refl
looks_left s (Oldest order) (Limit b) u other = refl
looks_left s at found u other = refl

-- the stage stays
pub stages_left : (e : Event) (s : Seat) (found : Reading) (told : Told) (u : ℕ)
    → (ChangesStage e → ⊥) → stage_of (seat_after s e found told) u ≡ stage_of s u
stages_left (Look by Log) s found told u other = absurd (other tt)
stages_left (Look by at) s found told u other =
    looks_left s at found u (λ e. other (subst (λ p. ChangesStage (Look by p)) (sym e) tt))
stages_left (Register by Write group) s found told u other = refl
stages_left (Register by Append group) s found told u other = refl
stages_left (Close by Append group (Deposit note)) s found told u other = refl
stages_left (Close by Append group Nothing) s found told u other = refl
stages_left (Close by Append group (Applied places)) s found told u other = refl
stages_left (Close by Write group carried) s found told u other =
    ap stage_at (get_or-map_default left_table s.tables u untouched)
stages_left (MoveCurrent by Write group) s found told u other = absurd (other tt)
stages_left (MoveCurrent by Append group) s found told u other = refl
stages_left (Advance by Write group) s found told u other = refl
stages_left (Advance by Append group) s found told u other = refl
stages_left (Claim by from to Entry) s found told u other = refl
stages_left (Claim by from to Marker) s found told u other = refl
stages_left (Switch by table memtable Clear) s found told u other =
    flush_left table.0 u _ s (λ turn. refl)
stages_left (Switch by table memtable Open) s found told u other = absurd (other tt)
stages_left (Switch by table memtable Mark) s found told u other = absurd (other tt)
stages_left (Raise by table memtable to) s found told u other = absurd (other tt)
stages_left (Finalise by table memtable) s found told u other = absurd (other tt)
stages_left (TakeTurn by Sync) s found told u other = refl
stages_left (TakeTurn by (Flush table)) s found told u other = absurd (other tt)
stages_left (GiveTurn by Sync) s found told u other = refl
stages_left (GiveTurn by (Flush table)) s found told u other = absurd (other tt)
stages_left (Put by Synced value) s found told u other = refl
stages_left (Put by (OldestLive table) value) s found told u other =
    flush_left table.0 u _ s (λ turn. refl)
stages_left (Put by Stopped value) s found told u other = refl
stages_left e s found told u other = refl
