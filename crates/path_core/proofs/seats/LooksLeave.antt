-- A Look leaves the operation of its seat, and which turns it holds.
use Rattle.std.proofs.Common.{Bool, true, false, cond, Option, Some, is_some, refl, ap, ◌∙◌}
use Rattle.std.proofs.lemmas.List.{length-map}
use Rattle.std.proofs.Math.ListN.{get_or-map as get_or-map_default}
use Rattle.op_core.specs.declared.count.Order.{Order}
use Rattle.op_core.specs.declared.count.Order.TheVariants.{Write, Append}
use Rattle.path_core.specs.declared.event.Cursor.TheVariants.{Synced, OldestLive, Stopped}
use Rattle.path_core.specs.declared.event.Place.{Place}
use Rattle.path_core.specs.declared.event.Place.TheVariants.{
  Count,
  Current,
  Oldest,
  Log,
  Newest,
  Bound,
  TurnWord,
  CursorWord,
}
use Rattle.path_core.specs.declared.event.Reading.{Reading}
use Rattle.path_core.specs.declared.event.Reading.TheVariants.{Operations, Number, Limit}
use Rattle.path_core.specs.declared.seat.FlushTurn.{FlushTurn}
use Rattle.path_core.specs.declared.seat.Seat.{Seat}
use Rattle.path_core.specs.declared.seat.SeatTable.{SeatTable}
use Rattle.path_core.specs.Parts.{untouched, seat_table}
use Rattle.path_core.specs.declared.seat.FoundGroups.{FoundGroups}
use Rattle.path_core.specs.SeatAfter.{looked}
use Rattle.path_core.specs.SeatParts.{
  in_flush,
  in_found,
  in_turn_groups,
  keeps,
  current_found,
  oldest_found,
  finished_found,
  bound_found,
  log_found,
  tries_bound,
  begins_at,
  deposited_end,
  has_note_of,
}
use Rattle.path_core.proofs.lists.Options.{still_some}
use Rattle.path_core.proofs.seats.Columns.{Leaves}
use Rattle.op_core.specs.Tallies.{is_finished}
use Rattle.path_core.proofs.seats.SeatLeft.{
  leaves_itself,
  holds_flush,
  leaves_at_table,
  leaves_flush,
  finds_in_sync,
}
use Rattle.path_core.proofs.seats.TriesApart.{tries_apart, begins_apart}

pub leaves_groups : (order : Order) (f : FoundGroups → FoundGroups) (s : Seat)
    → Leaves s (keeps order f s)
leaves_groups Write f s = finds_in_sync (in_turn_groups Write f) (in_found Write f s).found
    s.marker_waits s
    (λ turn. refl)
leaves_groups Append f s = finds_in_sync (in_turn_groups Append f) (in_found Append f s).found
    s.marker_waits s
    (λ turn. refl)

pub looks_leave : (s : Seat) (at : Place) (found : Reading) → Leaves s (looked s at found)
looks_leave s (Count order group) (Operations k) = choose (is_finished k)
  where
    choose : (b : Bool) → Leaves s (cond b (keeps order (finished_found group) s) s)
    choose true = leaves_groups order (finished_found group) s
    choose false = leaves_itself s
looks_leave s (Current order) (Number n) = leaves_groups order (current_found n) s
looks_leave s (Oldest order) (Number n) = leaves_groups order (oldest_found n) s
looks_leave s Log (Number n) = record {
  write = refl;
  append = refl;
  claim = refl;
  note = refl;
  issue = refl;
  flush = λ t. ap holds_flush (get_or-map_default (log_found n) s.tables t untouched)
      ∙ still_some (seat_table s t).flush _;
  tables = length-map s.tables (log_found n);
}
looks_leave s (Newest t) (Number n) = leaves_flush t.0 _ s
looks_leave s (Bound t m) (Limit b) = leaves_at_table t.0
    (λ (st : SeatTable). tries_bound (deposited_end s) m b (bound_found m b st)) s
    (ap (λ (o : Option FlushTurn). is_some o)
    (tries_apart (deposited_end s) m b (bound_found m b (seat_table s t.0))).1
    ∙ still_some (seat_table s t.0).flush _)
looks_leave s (TurnWord turn) (Operations k) = leaves_itself s
looks_leave s (TurnWord turn) (Number n) = leaves_itself s
looks_leave s (TurnWord turn) (Limit b) = leaves_itself s
looks_leave s (CursorWord Synced) (Number n) = finds_in_sync _ _ _ s (λ turn. refl)
looks_leave s (CursorWord (OldestLive t)) (Number n) = leaves_at_table t.0
    (λ (st : SeatTable). begins_at (has_note_of s t.0) n
    (in_flush (λ (turn : FlushTurn). record turn { oldest_live = Some n }) st)) s
    (ap (λ (o : Option FlushTurn). is_some o) (begins_apart (has_note_of s t.0) n
    (in_flush (λ (turn : FlushTurn). record turn { oldest_live = Some n }) (seat_table s t.0))).1
    ∙ still_some (seat_table s t.0).flush _)
looks_leave s (CursorWord Stopped) (Number n) = finds_in_sync _ _ _ s (λ turn. refl)
looks_leave s _ _ = leaves_itself s
