-- A step changes the part of its own seat alone, and of that only what its kind names: one column
-- for each field.
use Rattle.std.proofs.Common.{
  ◌<◌,
  true,
  false,
  length,
  Some,
  None,
  is_some,
  refl,
  ap,
  ◌∙◌,
  length-set,
}
use Rattle.std.proofs.lemmas.List.{length-map}
use Rattle.std.proofs.Math.ListN.{get_or-map as get_or-map_default}
use Rattle.op_core.specs.declared.count.Order.TheVariants.{Write, Append}
use Rattle.path_core.specs.declared.event.Carried.TheVariants.{Nothing, Deposit, Applied}
use Rattle.path_core.specs.declared.event.ClaimKind.TheVariants.{Entry, Marker}
use Rattle.path_core.specs.declared.event.Cursor.TheVariants.{Synced, OldestLive, Stopped}
use Rattle.path_core.specs.declared.event.Event.{Event}
use Rattle.path_core.specs.declared.event.Event.TheVariants.{
  Look,
  Register,
  Close,
  OpenGroup,
  MoveCurrent,
  Expire,
  Advance,
  Claim,
  Switch,
  Raise,
  Finalise,
  TakeTurn,
  GiveTurn,
  Put,
}
use Rattle.path_core.specs.declared.event.Reading.{Reading}
use Rattle.path_core.specs.declared.event.Reading.TheVariants.{Limit}
use Rattle.path_core.specs.declared.event.SwitchPart.TheVariants.{Clear, Open, Mark}
use Rattle.path_core.specs.declared.event.Turn.TheVariants.{Sync, Flush}
use Rattle.path_core.specs.declared.seat.FlushTurn.{FlushTurn}
use Rattle.path_core.specs.declared.seat.Issue.TheVariants.{Rest, Opened, Moved}
use Rattle.path_core.specs.declared.seat.Seat.{Seat}
use Rattle.path_core.specs.declared.seat.SeatTable.{SeatTable}
use Rattle.path_core.specs.declared.seat.Switching.TheVariants.{
  Begun,
  Marked as MarkedStage,
  Waiting,
}
use Rattle.path_core.specs.Parts.{untouched, seat_table}
use Rattle.path_core.specs.declared.state.Bound.TheVariants.{Raising}
use Rattle.path_core.specs.SeatAfter.{
  Told,
  seat_after,
  looked,
  raised_as_writer,
  raised_as_holder,
  number_read,
  left_table,
  new_flush,
  newest_made,
}
use Rattle.path_core.specs.SeatParts.{
  oldest_found,
  bound_found,
  raised_to,
  made_final,
  reaches,
  barrier_issued,
}
use Rattle.path_core.proofs.lists.Options.{still_some}
use Rattle.path_core.proofs.seats.Columns.{Columns}
use Rattle.path_core.proofs.seats.SeatLeft.{
  leaves_itself,
  leaves_twice,
  holds_flush,
  leaves_at_table,
  leaves_flush,
  issue_kept,
  leaves_in_sync,
  finds_in_sync,
  columns_left,
  raises_keep,
  turned,
  columns_are,
}
use Rattle.path_core.proofs.seats.LooksLeave.{leaves_groups, looks_leave}

-- The table whose turn a step takes or gives is among the seat's.
abbrev pub FitsSeat : Event → Seat → Type 0
FitsSeat (TakeTurn by (Flush table)) s = table.0 < length s.tables
FitsSeat (GiveTurn by (Flush table)) s = table.0 < length s.tables
FitsSeat _ s = Unit {0}

pub columns : (e : Event) (s : Seat) (found : Reading) (told : Told) → FitsSeat e s
    → Columns e s (seat_after s e found told)
columns (Look by at) s found told fits =
    columns_left (Look by at) s (looked s at found)
    (looks_leave s at found) refl refl refl refl refl
    (λ t. refl)
columns (Register by Write group) s found told fits = columns_are _ s _
    refl refl refl refl refl (λ t. refl) refl
columns (Register by Append group) s found told fits = columns_are _ s _
    refl refl refl refl refl (λ t. refl) refl
columns (Close by Append group (Deposit note)) s found told fits = columns_are _ s _
    refl refl refl refl refl (λ t. refl) refl
columns (Close by Append group Nothing) s found told fits = columns_are _ s _
    refl refl refl refl refl (λ t. refl) refl
columns (Close by Append group (Applied places)) s found told fits = columns_are _ s _
    refl refl refl refl refl (λ t. refl) refl
columns (Close by Write group carried) s found told fits = columns_are _ s _
    refl refl refl refl refl
    (λ t. ap holds_flush (get_or-map_default left_table s.tables t untouched))
    (length-map s.tables left_table)
columns (OpenGroup by order group) s found told fits = columns_are _ s _
    refl refl refl refl (issue_kept s.sync _ (λ i. Opened order) (λ turn. refl)) (λ t. refl) refl
columns (MoveCurrent by Write group) s found told fits = columns_are _ s _
    refl refl refl refl (issue_kept s.sync _ (λ i. Moved Write) (λ turn. refl))
    (λ t. ap holds_flush
    (get_or-map_default (barrier_issued (number_read found)) s.tables t untouched)
    ∙ still_some (seat_table s t).flush _)
    (length-map s.tables (barrier_issued (number_read found)))
columns (MoveCurrent by Append group) s found told fits = columns_are _ s _
    refl refl refl refl (issue_kept s.sync _ (λ i. Moved Append) (λ turn. refl)) (λ t. refl) refl
columns (Expire by order group) s found told fits = columns_are _ s _
    refl refl refl refl (issue_kept s.sync _ (λ i. Rest) (λ turn. refl)) (λ t. refl) refl
columns (Advance by order group) s found told fits = columns_left (Advance by order group) s _
    (leaves_groups order (oldest_found group) s) refl refl refl refl refl (λ t. refl)
columns (Claim by from to Entry) s found told fits = columns_are _ s _
    refl refl refl refl refl (λ t. refl) refl
columns (Claim by from to Marker) s found told fits = columns_left (Claim by from to Marker) s _
    (finds_in_sync _ _ _ s (λ turn. refl)) refl refl refl refl refl (λ t. refl)
columns (Switch by table memtable Clear) s found told fits =
    columns_left (Switch by table memtable Clear) s _
    (leaves_flush table.0 (λ (turn : FlushTurn). record turn { cleared = Some memtable }) s)
    refl refl refl refl refl (λ t. refl)
columns (Switch by table memtable Open) s found told fits =
    columns_left (Switch by table memtable Open) s _ (leaves_at_table table.0
    (λ (st : SeatTable). reaches (Begun memtable) (newest_made memtable st)) s
    (still_some _ _ ∙ still_some (seat_table s table.0).flush _))
    refl refl refl refl refl (λ t. refl)
columns (Switch by table memtable Mark) s found told fits =
    columns_left (Switch by table memtable Mark) s _ (leaves_at_table table.0
    (λ (st : SeatTable). reaches
    (MarkedStage (record { memtable = memtable; key = None; raised = false }))
    (bound_found memtable (Raising (record { 0 = 0 })) st)) s
    (still_some _ _ ∙ still_some (seat_table s table.0).flush _))
    refl refl refl refl refl (λ t. refl)
columns (Raise by table memtable to) s (Limit b) told fits =
    columns_left (Raise by table memtable to) s _ (leaves_at_table table.0
    (λ (st : SeatTable). raised_as_holder memtable to.0
    (raised_as_writer (is_some s.note) memtable b
    (bound_found memtable (raised_to to.0 b) st))) s
    (raises_keep (is_some s.note) memtable to.0 b (seat_table s table.0)))
    refl refl refl refl refl (λ t. refl)
columns (Finalise by table memtable) s (Limit b) told fits =
    columns_left (Finalise by table memtable) s _ (leaves_at_table table.0
    (λ (st : SeatTable). reaches (Waiting memtable) (bound_found memtable (made_final b) st)) s
    (still_some _ _ ∙ still_some (seat_table s table.0).flush _))
    refl refl refl refl refl (λ t. refl)
columns (TakeTurn by Sync) s found told fits = columns_are _ s _
    refl refl refl refl refl (λ t. refl) refl
columns (TakeTurn by (Flush table)) s found told fits = columns_are _ s _
    refl refl refl refl refl
    (λ t. turned table.0 t (λ (st : SeatTable). record st { flush = Some new_flush }) s true
    fits refl)
    (length-set s.tables table.0 _)
columns (GiveTurn by Sync) s found told fits = columns_are _ s _
    refl refl refl refl refl (λ t. refl) refl
columns (GiveTurn by (Flush table)) s found told fits = columns_are _ s _
    refl refl refl refl refl
    (λ t. turned table.0 t (λ (st : SeatTable). record st { flush = None }) s false fits refl)
    (length-set s.tables table.0 _)
columns (Put by Synced value) s found told fits = columns_left (Put by Synced value) s _
    (finds_in_sync _ _ _ s (λ turn. refl)) refl refl refl refl refl (λ t. refl)
columns (Put by (OldestLive table) value) s found told fits =
    columns_left (Put by (OldestLive table) value) s _
    (leaves_twice s _ _ (leaves_flush table.0 _ s) (leaves_in_sync _ _ (λ turn. refl)))
    refl refl refl refl refl (λ t. refl)
columns (Put by Stopped value) s found told fits = columns_left (Put by Stopped value) s _
    (finds_in_sync _ _ _ s (λ turn. refl)) refl refl refl refl refl (λ t. refl)
columns e s found told fits =
    columns_left e s s (leaves_itself s) refl refl refl refl refl (λ t. refl)
