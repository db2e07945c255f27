-- What the holder of a table's turn found of its newest memtable, and of the least that is not
-- retired, behind the steps of a switch, and behind those that wait for a barrier.
use Rattle.std.proofs.Common.{◌≡◌, ℕ, ◌<◌, Bool, true, false, ◌&&◌, if◌then◌else◌, List, get_or}
use Rattle.std.proofs.Common.{Option, Some, None, is_some, refl, ap, ◌∙◌, get_or-set_same}
use Rattle.std.proofs.Math.ListN.{get_or-map as get_or-map_default}
use Rattle.std.proofs.lemmas.Option.{none-some, same_Some}
use Rattle.std.specs.Option.{option_map}
use Rattle.clog_base.specs.declared.cell.Table.{Table}
use Rattle.clog_base.specs.declared.position.Key.{Key}
use Rattle.op_core.specs.declared.count.Order.{Order}
use Rattle.op_core.specs.declared.count.Order.TheVariants.{Append, Write}
use Rattle.op_core.specs.Tallies.{is_finished}
use Rattle.path_core.specs.declared.event.Event.TheVariants.{Advance, Finalise, Look, Raise, Switch}
use Rattle.path_core.specs.declared.event.Place.TheVariants.{Count, Current, Log, Oldest}
use Rattle.path_core.specs.declared.event.SwitchPart.TheVariants.{Clear, Open as OpenPart, Mark}
use Rattle.path_core.specs.declared.seat.FlushTurn.{FlushTurn}
use Rattle.path_core.specs.declared.seat.FoundGroups.{FoundGroups}
use Rattle.path_core.specs.declared.seat.Seat.{Seat}
use Rattle.path_core.specs.declared.seat.SeatTable.{SeatTable}
use Rattle.path_core.specs.declared.seat.Switching.{Switching}
use Rattle.path_core.specs.declared.seat.Switching.TheVariants.{Begun, Marked as MarkedStage}
use Rattle.path_core.specs.declared.seat.Switching.TheVariants.{Waiting}
use Rattle.path_core.specs.declared.state.Bound.{Bound}
use Rattle.path_core.specs.declared.state.Bound.TheVariants.{Raising}
use Rattle.path_core.specs.Parts.{is_at, seat_table, untouched}
use Rattle.path_core.specs.SeatAfter.{raised_as_holder, raised_as_writer, raised_stage}
use Rattle.path_core.specs.SeatParts.{bound_found, current_found, finished_found, in_flush}
use Rattle.path_core.specs.SeatParts.{is_raising, keeps, log_found, made_final, oldest_found}
use Rattle.path_core.specs.SeatParts.{raised_to, reaches}
use Rattle.path_core.proofs.seats.Columns.{at_table_keeps}
use Rattle.path_rule.specs.declared.view.View.{View}
use Rattle.path_rule.specs.Calls.{Did}
use Rattle.op_core.specs.CountWords.{tally_in}
use Rattle.path_rule.specs.Layout.{bound_in}
use Rattle.path_rule.specs.Switched.{KeepsMemtables}
use Rattle.path_rule.specs.Switches.{FlushCleared, FlushNewest, FlushOldest}
use Rattle.path_rule.proofs.seats.Accepting.{table_inside}

-- ---- the steps of a switch

abbrev least_in : Option FlushTurn → Option (Option ℕ)
least_in o = option_map (λ (turn : FlushTurn). turn.oldest_live) o

abbrev least_at : SeatTable → Option (Option ℕ)
least_at st = least_in st.flush

abbrev newest_at : SeatTable → Option (Option ℕ)
newest_at st = option_map (λ (turn : FlushTurn). turn.newest) st.flush

-- a change of the turn that leaves what is told of it
kept : (read : FlushTurn → Option ℕ) (f : FlushTurn → FlushTurn)
    → ((turn : FlushTurn) → read (f turn) ≡ read turn) → (o : Option FlushTurn)
    → option_map read (option_map f o) ≡ option_map read o
kept read f same None = refl
kept read f same (Some turn) = ap (λ (n : Option ℕ). Some n) (same turn)

-- what was found is found still
found_still : (read : FlushTurn → Option ℕ) (n : ℕ) (o o' : Option FlushTurn)
    → option_map read o' ≡ option_map read o
    → (turn : FlushTurn) × (o ≡ Some turn) × (read turn ≡ Some n)
    → (turn : FlushTurn) × (o' ≡ Some turn) × (read turn ≡ Some n)
found_still read n o None e F = absurd (none-some (read F.0)
    (e ∙ ap (λ (k : Option FlushTurn). option_map read k) F.1))
found_still read n o (Some turn) e F = (
  turn,
  refl,
  same_Some (read turn) (read F.0)
      (e ∙ ap (λ (k : Option FlushTurn). option_map read k) F.1) ∙ F.2,
)

flush_kept : (c : Bool) (m : ℕ) (st : SeatTable)
    → (if c then record st { place = Some m } else st).flush ≡ st.flush
flush_kept true m st = refl
flush_kept false m st = refl

module _ (v after : View) (w u : ℕ) where
  least_of : least_at (seat_table after.part u) ≡ least_at (seat_table v.part u)
      → (n : ℕ) → FlushOldest u v.part n → FlushOldest u after.part n
  least_of same n F = found_still (λ (turn : FlushTurn). turn.oldest_live) n
      (seat_table v.part u).flush (seat_table after.part u).flush same F

  both_of : least_at (seat_table after.part u) ≡ least_at (seat_table v.part u)
      → newest_at (seat_table after.part u) ≡ newest_at (seat_table v.part u)
      → KeepsMemtables u v.part after.part
  both_of least newest = record {
    newest = λ n F. found_still (λ (turn : FlushTurn). turn.newest) n
        (seat_table v.part u).flush (seat_table after.part u).flush newest F;
    oldest = least_of least;
  }

  pub open_keeps : (t : Table) (m n : ℕ) → Did v w (Switch w t m OpenPart) n after
      → (k : ℕ) → FlushOldest u v.part k → FlushOldest u after.part k
  open_keeps t m n d = let set : FlushTurn → FlushTurn =
      λ turn. record turn { newest = Some m; cleared = None } in
      least_of (ap (λ (x : View). least_at (seat_table x.part u)) d.view
      ∙ at_table_keeps t.0 u (λ (st : SeatTable). reaches (Begun m) (in_flush set st)) v.part
      least_at (
      kept _ (λ (turn : FlushTurn). record turn { stage = Begun m }) (λ turn. refl)
      (in_flush set (seat_table v.part t.0)).flush
      ∙ kept _ set (λ turn. refl) (seat_table v.part t.0).flush))

  pub clear_keeps : (t : Table) (m n : ℕ) → Did v w (Switch w t m Clear) n after
      → KeepsMemtables u v.part after.part
  clear_keeps t m n d = let set : FlushTurn → FlushTurn =
      λ turn. record turn { cleared = Some m } in
      both_of (ap (λ (x : View). least_at (seat_table x.part u)) d.view
      ∙ at_table_keeps t.0 u (in_flush set) v.part least_at
      (kept _ set (λ turn. refl) (seat_table v.part t.0).flush))
      (ap (λ (x : View). newest_at (seat_table x.part u)) d.view
      ∙ at_table_keeps t.0 u (in_flush set) v.part newest_at
      (kept _ set (λ turn. refl) (seat_table v.part t.0).flush))

  -- a bound is found, and a stage is reached
  reached : (read : FlushTurn → Option ℕ) (k : Switching) (m : ℕ) (b : Bound)
      → ((turn : FlushTurn) → read (record turn { stage = k }) ≡ read turn)
      → ((turn : FlushTurn) → read (record turn {
        bound = Some (record { memtable = m; bound = b });
      }) ≡ read turn) → (st : SeatTable)
      → option_map read (reaches k (bound_found m b st)).flush ≡ option_map read st.flush
  reached read k m b staged bounded st =
      kept read (λ (turn : FlushTurn). record turn { stage = k }) staged
      (bound_found m b st).flush
      ∙ kept read (λ (turn : FlushTurn). record turn {
        bound = Some (record { memtable = m; bound = b });
      }) bounded st.flush

  pub mark_keeps : (t : Table) (m n : ℕ) → Did v w (Switch w t m Mark) n after
      → KeepsMemtables u v.part after.part
  mark_keeps t m n d = let k = MarkedStage (record { memtable = m; key = None; raised = false }) in
      let b = Raising (record { 0 = 0 }) in let st = seat_table v.part t.0 in
      let f : SeatTable → SeatTable = λ st. reaches k (bound_found m b st) in
      both_of (ap (λ (x : View). least_at (seat_table x.part u)) d.view
      ∙ at_table_keeps t.0 u f v.part least_at
      (reached (λ (turn : FlushTurn). turn.oldest_live) k m b (λ turn. refl) (λ turn. refl) st))
      (ap (λ (x : View). newest_at (seat_table x.part u)) d.view
      ∙ at_table_keeps t.0 u f v.part newest_at
      (reached (λ (turn : FlushTurn). turn.newest) k m b (λ turn. refl) (λ turn. refl) st))

  pub look_keeps : (n : ℕ) → Did v w (Look w Log) n after → KeepsMemtables u v.part after.part
  look_keeps n d = both_of (ap (λ (x : View). least_at (seat_table x.part u)) d.view
      ∙ (ap least_at (get_or-map_default (log_found n) v.part.tables u untouched)
      ∙ kept (λ (turn : FlushTurn). turn.oldest_live) _ (λ turn. refl) (seat_table v.part u).flush))
      (ap (λ (x : View). newest_at (seat_table x.part u)) d.view
      ∙ (ap newest_at (get_or-map_default (log_found n) v.part.tables u untouched)
      ∙ kept (λ (turn : FlushTurn). turn.newest) _ (λ turn. refl) (seat_table v.part u).flush))

  -- a bound is raised
  heightened : (read : FlushTurn → Option ℕ) (m n : ℕ) (to : Key)
      → ((turn : FlushTurn) (k : Switching) → read (record turn { stage = k }) ≡ read turn)
      → ((turn : FlushTurn) (b : Bound) → read (record turn {
        bound = Some (record { memtable = m; bound = b });
      }) ≡ read turn) → (st : SeatTable)
      → option_map read (raised_as_holder m to.0 (raised_as_writer (is_some v.part.note) m
      (bound_in n) (bound_found m (raised_to to.0 (bound_in n)) st))).flush
      ≡ option_map read st.flush
  heightened read m n to staged bounded st = let b = bound_in n in
      let found = bound_found m (raised_to to.0 b) st in
      kept read (λ (turn : FlushTurn). record turn { stage = raised_stage m to.0 turn.stage })
      (λ turn. staged turn (raised_stage m to.0 turn.stage))
      (raised_as_writer (is_some v.part.note) m b found).flush
      ∙ (ap (λ (o : Option FlushTurn). option_map read o)
      (flush_kept (is_some v.part.note && is_at found.trying m && is_raising b) m found)
      ∙ kept read (λ (turn : FlushTurn). record turn {
        bound = Some (record { memtable = m; bound = raised_to to.0 b });
      }) (λ turn. bounded turn (raised_to to.0 b)) st.flush)

  pub raise_keeps : (t : Table) (m n : ℕ) (to : Key) → Did v w (Raise w t m to) n after
      → KeepsMemtables u v.part after.part
  raise_keeps t m n to d = let st = seat_table v.part t.0 in
      let f : SeatTable → SeatTable = λ st. raised_as_holder m to.0
      (raised_as_writer (is_some v.part.note) m (bound_in n)
      (bound_found m (raised_to to.0 (bound_in n)) st)) in
      both_of (ap (λ (x : View). least_at (seat_table x.part u)) d.view
      ∙ at_table_keeps t.0 u f v.part least_at (heightened (λ (turn : FlushTurn). turn.oldest_live)
      m n to (λ turn k. refl) (λ turn b. refl) st))
      (ap (λ (x : View). newest_at (seat_table x.part u)) d.view
      ∙ at_table_keeps t.0 u f v.part newest_at (heightened (λ (turn : FlushTurn). turn.newest)
      m n to (λ turn k. refl) (λ turn b. refl) st))

  pub final_keeps : (t : Table) (m n : ℕ) → Did v w (Finalise w t m) n after
      → KeepsMemtables u v.part after.part
  final_keeps t m n d = let b = made_final (bound_in n) in let st = seat_table v.part t.0 in
      let f : SeatTable → SeatTable = λ st. reaches (Waiting m) (bound_found m b st) in
      both_of (ap (λ (x : View). least_at (seat_table x.part u)) d.view
      ∙ at_table_keeps t.0 u f v.part least_at
      (reached (λ (turn : FlushTurn). turn.oldest_live) (Waiting m) m b (λ turn. refl)
      (λ turn. refl) st))
      (ap (λ (x : View). newest_at (seat_table x.part u)) d.view
      ∙ at_table_keeps t.0 u f v.part newest_at
      (reached (λ (turn : FlushTurn). turn.newest) (Waiting m) m b (λ turn. refl) (λ turn. refl)
      st))

-- the memtable that was made is the newest
pub open_newest : (v after : View) (w : ℕ) (t : Table) (m n : ℕ) → t.0 < 16
    → Did v w (Switch w t m OpenPart) n after → (turn : FlushTurn)
    → (seat_table v.part t.0).flush ≡ Some turn → FlushNewest t.0 after.part m
open_newest v after w t m n few d turn is = (
  record turn { newest = Some m; stage = Begun m; cleared = None },
  ap (λ (x : View). (seat_table x.part t.0).flush) d.view
      ∙ (ap (λ (st : SeatTable). st.flush)
      (get_or-set_same v.part.tables t.0 _ untouched (table_inside v w _ d.was t.0 few))
      ∙ ap (λ (o : Option FlushTurn). option_map (λ (turn : FlushTurn).
      record turn { stage = Begun m }) (option_map (λ (turn : FlushTurn).
      record turn { newest = Some m; cleared = None }) o)) is),
  refl,
)

-- who has cleared a place knows it
pub clear_found : (v after : View) (w : ℕ) (t : Table) (m n : ℕ) → t.0 < 16
    → Did v w (Switch w t m Clear) n after → (turn : FlushTurn)
    → (seat_table v.part t.0).flush ≡ Some turn → FlushCleared t.0 after.part m
clear_found v after w t m n few d turn is = (
  record turn { cleared = Some m },
  ap (λ (x : View). (seat_table x.part t.0).flush) d.view
      ∙ (ap (λ (st : SeatTable). st.flush)
      (get_or-set_same v.part.tables t.0 _ untouched (table_inside v w _ d.was t.0 few))
      ∙ ap (λ (o : Option FlushTurn). option_map (λ (turn : FlushTurn).
      record turn { cleared = Some m }) o) is),
  refl,
)

-- ---- steps that leave all that a seat knows of tables

keeps_tables : (o : Order) (f : FoundGroups → FoundGroups) (s : Seat)
    → (keeps o f s).tables ≡ s.tables
keeps_tables Write f s = refl
keeps_tables Append f s = refl

module _ (v after : View) (w n : ℕ) (o : Order) where
  pub current_leaves : Did v w (Look w (Current o)) n after → after.part.tables ≡ v.part.tables
  current_leaves d = ap (λ (x : View). x.part.tables) d.view
      ∙ keeps_tables o (current_found n) v.part

  pub oldest_leaves : Did v w (Look w (Oldest o)) n after → after.part.tables ≡ v.part.tables
  oldest_leaves d = ap (λ (x : View). x.part.tables) d.view
      ∙ keeps_tables o (oldest_found n) v.part

  pub count_leaves : (g : ℕ) → Did v w (Look w (Count o g)) n after
      → after.part.tables ≡ v.part.tables
  count_leaves g d = ap (λ (x : View). x.part.tables) d.view ∙ by (is_finished (tally_in n))
    where
      by : (b : Bool) → (if b then keeps o (finished_found g) v.part else v.part).tables
          ≡ v.part.tables
      by true = keeps_tables o (finished_found g) v.part
      by false = refl

  pub advance_leaves : (g : ℕ) → Did v w (Advance w o g) n after
      → after.part.tables ≡ v.part.tables
  advance_leaves g d = ap (λ (x : View). x.part.tables) d.view
      ∙ keeps_tables o (oldest_found g) v.part

pub least_left : (v after : View) (t k : ℕ) → after.part.tables ≡ v.part.tables
    → FlushOldest t v.part k → FlushOldest t after.part k
least_left v after t k same F =
    (F.0, ap (λ (ts : List SeatTable). (get_or ts t untouched).flush) same ∙ F.1, F.2)
