-- What the steps of a switch leave of what its holder found of the least memtable.
use Rattle.std.proofs.Common.{◌≡◌, ℕ, Bool, true, false, ◌&&◌, if◌then◌else◌, Option, Some, None}
use Rattle.std.proofs.Common.{is_some, refl, ap, ◌∙◌}
use Rattle.std.proofs.Math.ListN.{get_or-map as get_or-map_default}
use Rattle.std.proofs.lemmas.Option.{none-some}
use Rattle.std.specs.Option.{option_and_then, option_map}
use Rattle.clog_base.specs.declared.cell.Table.{Table}
use Rattle.clog_base.specs.declared.position.Key.{Key}
use Rattle.path_core.specs.declared.event.Event.TheVariants.{Look, Switch, Raise, Finalise}
use Rattle.path_core.specs.declared.event.Cursor.TheVariants.{OldestLive}
use Rattle.path_core.specs.declared.event.Place.TheVariants.{CursorWord, Log, Newest}
use Rattle.path_core.specs.declared.event.SwitchPart.TheVariants.{Clear, Open as OpenPart, Mark}
use Rattle.path_core.specs.declared.seat.FlushTurn.{FlushTurn}
use Rattle.path_core.specs.declared.seat.Seat.{Seat}
use Rattle.path_core.specs.declared.seat.SeatTable.{SeatTable}
use Rattle.path_core.specs.declared.seat.Switching.{Switching}
use Rattle.path_core.specs.declared.seat.Switching.TheVariants.{Begun, Marked as MarkedStage}
use Rattle.path_core.specs.declared.seat.Switching.TheVariants.{Waiting}
use Rattle.path_core.specs.declared.state.Bound.{Bound}
use Rattle.path_core.specs.declared.state.Bound.TheVariants.{Raising}
use Rattle.path_core.specs.Parts.{is_at, seat_table, stage_of, untouched}
use Rattle.path_core.specs.SeatAfter.{newest_made, place_cleared, raised_as_holder}
use Rattle.path_core.specs.SeatAfter.{raised_as_writer, raised_stage}
use Rattle.path_core.specs.SeatParts.{begins_at, bound_found, has_note_of, in_flush, is_raising}
use Rattle.path_core.specs.SeatParts.{log_found, made_final, raised_to, reaches}
use Rattle.path_core.proofs.seats.Columns.{at_table_keeps}
use Rattle.path_rule.specs.declared.view.View.{View}
use Rattle.path_rule.specs.Calls.{Did}
use Rattle.path_rule.specs.Layout.{bound_in}
use Rattle.path_rule.specs.Switches.{FlushOldest}

-- the least memtable that is not retired, as the holder of a table's turn found it

abbrev pub oldest_in : Option FlushTurn → Option ℕ
oldest_in o = option_and_then (λ (turn : FlushTurn). turn.oldest_live) o

abbrev pub oldest_at : SeatTable → Option ℕ
oldest_at st = oldest_in st.flush

pub to_oldest : (t n : ℕ) (p : Seat) → FlushOldest t p n → oldest_at (seat_table p t) ≡ Some n
to_oldest t n p F = ap (λ o. oldest_in o) F.1 ∙ F.2

turn_with : (n : ℕ) (o : Option FlushTurn) → oldest_in o ≡ Some n
    → (turn : FlushTurn) × (o ≡ Some turn) × (turn.oldest_live ≡ Some n)
turn_with n None e = absurd (none-some n e)
turn_with n (Some turn) e = (turn, refl, e)

pub from_oldest : (t n : ℕ) (p : Seat) → oldest_at (seat_table p t) ≡ Some n → FlushOldest t p n
from_oldest t n p e = turn_with n (seat_table p t).flush e

-- a change of the turn that leaves it
kept : (f : FlushTurn → FlushTurn)
    → ((turn : FlushTurn) → (f turn).oldest_live ≡ turn.oldest_live)
    → (o : Option FlushTurn) → oldest_in (option_map f o) ≡ oldest_in o
kept f same None = refl
kept f same (Some turn) = same turn

flush_kept : (c : Bool) (m : ℕ) (st : SeatTable)
    → (if c then record st { place = Some m } else st).flush ≡ st.flush
flush_kept true m st = refl
flush_kept false m st = refl

-- a bound that was found, and a stage that is reached
bound_kept : (m : ℕ) (b : Bound) (st : SeatTable)
    → oldest_at (bound_found m b st) ≡ oldest_at st
bound_kept m b st = kept (λ (turn : FlushTurn). record turn {
  bound = Some (record { memtable = m; bound = b });
}) (λ turn. refl) st.flush

stage_kept : (k : Switching) (st : SeatTable) → oldest_at (reaches k st) ≡ oldest_at st
stage_kept k st = kept (λ (turn : FlushTurn). record turn { stage = k }) (λ turn. refl) st.flush

module _ (v after : View) (w u : ℕ) where
  abbrev pub Stays : Type 0
  Stays = oldest_at (seat_table after.part u) ≡ oldest_at (seat_table v.part u)

  pub clear_keeps : (t : Table) (m n : ℕ) → Did v w (Switch w t m Clear) n after → Stays
  clear_keeps t m n d = ap (λ (x : View). oldest_at (seat_table x.part u)) d.view
      ∙ at_table_keeps t.0 u (place_cleared m) v.part oldest_at
      (kept (λ (turn : FlushTurn). record turn { cleared = Some m })
      (λ turn. refl) (seat_table v.part t.0).flush)

  pub open_keeps : (t : Table) (m n : ℕ) → Did v w (Switch w t m OpenPart) n after → Stays
  open_keeps t m n d = ap (λ (x : View). oldest_at (seat_table x.part u)) d.view
      ∙ at_table_keeps t.0 u (λ (st : SeatTable). reaches (Begun m) (newest_made m st)) v.part
      oldest_at
      (stage_kept (Begun m)
      (newest_made m (seat_table v.part t.0))
      ∙ kept (λ (turn : FlushTurn). record turn { newest = Some m; cleared = None })
      (λ turn. refl) (seat_table v.part t.0).flush)

  pub mark_keeps : (t : Table) (m n : ℕ) → Did v w (Switch w t m Mark) n after → Stays
  mark_keeps t m n d = let k = MarkedStage (record { memtable = m; key = None; raised = false }) in
      let b = Raising (record { 0 = 0 }) in
      ap (λ (x : View). oldest_at (seat_table x.part u)) d.view
      ∙ at_table_keeps t.0 u (λ (st : SeatTable). reaches k (bound_found m b st)) v.part oldest_at
      (stage_kept k (bound_found m b (seat_table v.part t.0))
      ∙ bound_kept m b (seat_table v.part t.0))

  pub look_keeps : (n : ℕ) → Did v w (Look w Log) n after → Stays
  look_keeps n d = ap (λ (x : View). oldest_at (seat_table x.part u)) d.view
      ∙ (ap oldest_at (get_or-map_default (log_found n) v.part.tables u untouched)
      ∙ kept _ (λ turn. refl) (seat_table v.part u).flush)

  pub raise_keeps : (t : Table) (m n : ℕ) (to : Key) → Did v w (Raise w t m to) n after → Stays
  raise_keeps t m n to d = let b = bound_in n in
      let st = seat_table v.part t.0 in let found = bound_found m (raised_to to.0 b) st in
      ap (λ (x : View). oldest_at (seat_table x.part u)) d.view
      ∙ at_table_keeps t.0 u (λ (st : SeatTable). raised_as_holder m to.0
      (raised_as_writer (is_some v.part.note) m b (bound_found m (raised_to to.0 b) st))) v.part
      oldest_at
      (kept (λ (turn : FlushTurn). record turn { stage = raised_stage m to.0 turn.stage })
      (λ turn. refl) (raised_as_writer (is_some v.part.note) m b found).flush
      ∙ (ap (λ o. oldest_in o)
      (flush_kept (is_some v.part.note && is_at found.trying m && is_raising b) m found)
      ∙ bound_kept m (raised_to to.0 b) st))

  pub final_keeps : (t : Table) (m n : ℕ) → Did v w (Finalise w t m) n after → Stays
  final_keeps t m n d = let b = made_final (bound_in n) in
      ap (λ (x : View). oldest_at (seat_table x.part u)) d.view
      ∙ at_table_keeps t.0 u (λ (st : SeatTable). reaches (Waiting m) (bound_found m b st)) v.part
      oldest_at (stage_kept (Waiting m) (bound_found m b (seat_table v.part t.0))
      ∙ bound_kept m b (seat_table v.part t.0))

-- ---- how far a switch is

abbrev stage_in : SeatTable → Option Switching
stage_in st = option_map (λ (turn : FlushTurn). turn.stage) st.flush

staged : (f : FlushTurn → FlushTurn) → ((turn : FlushTurn) → (f turn).stage ≡ turn.stage)
    → (o : Option FlushTurn) → option_map (λ (turn : FlushTurn). turn.stage) (option_map f o)
    ≡ option_map (λ (turn : FlushTurn). turn.stage) o
staged f same None = refl
staged f same (Some turn) = ap (λ (k : Switching). Some k) (same turn)

-- looks at the newest memtable, and at the least one that is not retired, leave it

begins_left : (b : Bool) (n : ℕ) (st : SeatTable) → (begins_at b n st).flush ≡ st.flush
begins_left false n st = refl
begins_left true n st = by (is_some st.trying)
  where
    by : (c : Bool) → (if c then st else record st { trying = Some n }).flush ≡ st.flush
    by true = refl
    by false = refl

module _ (v after : View) (w u n : ℕ) (t : Table) where
  pub newest_stage : Did v w (Look w (Newest t)) n after → stage_of after.part u ≡ stage_of v.part u
  newest_stage d = ap (λ (x : View). stage_of x.part u) d.view
      ∙ at_table_keeps t.0 u (in_flush (λ (turn : FlushTurn). record turn { newest = Some n }))
      v.part stage_in (staged (λ (turn : FlushTurn). record turn { newest = Some n }) (λ turn. refl)
      (seat_table v.part t.0).flush)

  pub least_stage : Did v w (Look w (CursorWord (OldestLive t))) n after
      → stage_of after.part u ≡ stage_of v.part u
  least_stage d = let st = seat_table v.part t.0 in
      let b = has_note_of v.part t.0 in
      let set : FlushTurn → FlushTurn = λ turn. record turn { oldest_live = Some n } in
      ap (λ (x : View). stage_of x.part u) d.view
      ∙ at_table_keeps t.0 u (λ (st : SeatTable). begins_at b n (in_flush set st)) v.part stage_in
      (ap (λ (o : Option FlushTurn). option_map (λ (turn : FlushTurn). turn.stage) o)
      (begins_left b n (in_flush set st)) ∙ staged set (λ turn. refl) st.flush)
