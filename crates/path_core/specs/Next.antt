-- The state after a step: one function for each part of it. What a function does not name stays.
use Rattle.std.specs.Prelude.{
  ℕ,
  ◌+◌,
  nat_lt,
  nat_le,
  Bool,
  false,
  not,
  ◌&&◌,
  List,
  [],
  ◌∷◌,
  ◌++◌,
  map,
  set,
  Some,
  None,
  is_some,
  if◌then◌else◌,
  insert,
}
use Rattle.std.specs.List.{filter, position_or_len, range_with_len}
use Rattle.std.specs.Option.{option_map_or}
use Rattle.op_core.specs.declared.count.Order.{Order}
use Rattle.op_core.specs.declared.count.Order.TheVariants.{Write, Append}
use Rattle.op_core.specs.declared.count.Tally.{Tally}
use Rattle.op_core.specs.declared.count.Tally.TheVariants.{Open as OpenTally}
use Rattle.op_core.specs.Tallies.{is_same_order, tally_at, one_more, one_less, expired}
use Rattle.path_core.specs.declared.event.Carried.TheVariants.{Deposit, Applied}
use Rattle.path_core.specs.declared.event.ClaimKind.{ClaimKind}
use Rattle.path_core.specs.declared.event.Cursor.TheVariants.{Synced, OldestLive, Stopped}
use Rattle.path_core.specs.declared.event.Event.{Event}
use Rattle.path_core.specs.declared.event.Event.TheVariants.{
  Register,
  Close,
  OpenGroup,
  MoveCurrent,
  Expire,
  Advance,
  Claim,
  Switch,
  Raise,
  Finalise,
  GiveTurn,
  Put,
}
use Rattle.path_core.specs.declared.event.SwitchPart.TheVariants.{Open, Mark}
use Rattle.path_core.specs.declared.event.Turn.TheVariants.{Sync}
use Rattle.path_core.specs.declared.note.EntryNote.{EntryNote}
use Rattle.path_core.specs.declared.seat.Range.{Range}
use Rattle.path_core.specs.declared.seat.Seat.{Seat}
use Rattle.path_core.specs.declared.seat.SeatTable.{SeatTable}
use Rattle.path_core.specs.declared.seat.SyncTurn.{SyncTurn}
use Rattle.path_core.specs.declared.state.Bound.{Bound}
use Rattle.path_core.specs.declared.state.Bound.TheVariants.{Raising}
use Rattle.path_core.specs.declared.state.Claim.{Claim as ClaimOf}
use Rattle.path_core.specs.declared.state.Memtable.{Memtable}
use Rattle.path_core.specs.declared.state.OrderGroups.{OrderGroups}
use Rattle.path_core.specs.declared.state.PathState.{PathState}
use Rattle.path_core.specs.declared.state.Placed.{Placed}
use Rattle.path_core.specs.declared.state.TableState.{TableState}
use Rattle.path_core.specs.declared.state.WrittenFile.{WrittenFile}
use Rattle.path_core.specs.Keys.{ordinal_of, claim_start, claim_end}
use Rattle.path_core.specs.Parts.{
  fresh_memtable,
  seat_of,
  table_of,
  memtable_at,
  memtable_of,
  is_empty,
  key_of_bound,
  last_upper,
  last_kept,
}
use Rattle.path_core.specs.Words.{reading, by_of, place_of}
use Rattle.path_core.specs.Droppable.{is_logged, is_droppable}
use Rattle.path_core.specs.Allowed.{is_unbarred, is_unbarred_marker}
use Rattle.path_core.specs.SeatParts.{raised_to, made_final}
use Rattle.path_core.specs.SeatAfter.{Told, seat_after}

-- The log key and the claims.

abbrev pub log_after : ℕ → Event → ℕ
log_after log (Claim by from to what) = to.0
log_after log _ = log

abbrev pub claim_of : ℕ → ℕ → ℕ → ℕ → ClaimKind → ClaimOf
claim_of capacity by from to what = record {
  by = by;
  start = claim_start what from to;
  end = claim_end what capacity from to;
  what = what;
  barrier = None;
}

-- A marker of the seat that has no barrier gets the group before the one that is made current.
abbrev pub barred_marker : ℕ → ℕ → ClaimOf → ClaimOf
barred_marker by group c =
    if is_unbarred_marker by c then record c { barrier = Some group } else c

abbrev pub claims_after : PathState → Event → List ClaimOf
claims_after x (Claim by from to what) = x.claims ++ claim_of x.capacity by from.0 to.0 what ∷ []
claims_after x (MoveCurrent by Append group) = map (barred_marker by x.append.current) x.claims
claims_after x _ = x.claims

-- The notes, and an order's groups.

-- The note joins the notes in the order of the log: before the first that starts behind it.
abbrev pub joined : EntryNote → List EntryNote → List EntryNote
joined note notes =
    insert notes
    (position_or_len (λ (n : EntryNote). nat_lt note.start.0 n.start.0) notes) note

abbrev pub notes_after : List EntryNote → Event → List EntryNote
notes_after notes (Close by order group (Deposit note)) = joined note notes
notes_after notes _ = notes

-- one count changed
abbrev pub with_tally : OrderGroups → ℕ → (Tally → Tally) → OrderGroups
with_tally groups group f =
    record groups { tallies = set groups.tallies group (f (tally_at groups.tallies group)) }

abbrev pub groups_after : Order → OrderGroups → Event → OrderGroups
groups_after o groups (Register by order group) =
    if is_same_order o order then with_tally groups group one_more else groups
groups_after o groups (Close by order group carried) =
    if is_same_order o order then with_tally groups group one_less else groups
groups_after o groups (OpenGroup by order group) =
    if is_same_order o order
    then record groups { tallies = groups.tallies ++ OpenTally 0 ∷ [] } else groups
groups_after o groups (MoveCurrent by order group) =
    if is_same_order o order then record groups { current = group } else groups
groups_after o groups (Expire by order group) =
    if is_same_order o order then with_tally groups group expired else groups
groups_after o groups (Advance by order group) =
    if is_same_order o order then record groups { oldest = group } else groups
groups_after o groups _ = groups

-- The tables.

-- one memtable changed
abbrev pub with_memtable : TableState → ℕ → (Memtable → Memtable) → TableState
with_memtable t m f = record t { memtables = set t.memtables m (f (memtable_at t m)) }

abbrev pub with_bound : (Bound → Bound) → Memtable → Memtable
with_bound f m = record m { bound = f m.bound }

-- A final memtable that has no barrier gets the group before the one that is made current.
abbrev pub barred : ℕ → Memtable → Memtable
barred group m = if is_unbarred m then record m { barrier = Some group } else m

-- The same at each table whose turn the seat holds.
abbrev pub barred_tables : ℕ → List SeatTable → List TableState → List TableState
barred_tables group [] ts = ts
barred_tables group (s ∷ ss) [] = []
barred_tables group (s ∷ ss) (t ∷ ts) =
    (if is_some s.flush then record t { memtables = map (barred group) t.memtables } else t)
    ∷ barred_tables group ss ts

abbrev pub tables_after : PathState → Event → List TableState
tables_after x (MoveCurrent by Write group) =
    barred_tables x.write.current (seat_of x by).tables x.tables
tables_after x (Switch by table memtable Open) =
    let t = table_of x table.0 in
    set x.tables table.0
    (record t { newest = memtable; memtables = t.memtables ++ fresh_memtable ∷ [] })
tables_after x (Switch by table memtable Mark) =
    set x.tables table.0 (with_memtable (table_of x table.0) memtable (λ (m : Memtable).
    record m { bound = Raising (record { 0 = 0 }); mark = Some x.log }))
tables_after x (Raise by table memtable to) =
    set x.tables table.0
    (with_memtable (table_of x table.0) memtable (with_bound (raised_to to.0)))
tables_after x (Finalise by table memtable) =
    set x.tables table.0 (with_memtable (table_of x table.0) memtable (with_bound made_final))
tables_after x (Put by (OldestLive table) value) =
    set x.tables table.0 (record (table_of x table.0) { oldest_live = value })
tables_after x _ = x.tables

-- What closed writes placed, the files, and what a sync made lasting.

-- the places of a seat from a table on, for the entry that ends at a key
abbrev pub places_from : ℕ → ℕ → List SeatTable → List Placed
places_from t entry [] = []
places_from t entry (s ∷ ss) =
    option_map_or
    (λ (m : ℕ). record { table = t; entry = entry; memtable = m } ∷ places_from (t + 1) entry ss)
    s.place (places_from (t + 1) entry ss)

abbrev pub end_of_claim : Seat → ℕ
end_of_claim s = option_map_or (λ (r : Range). r.end) s.claim 0

abbrev pub placed_after : PathState → Event → List Placed
placed_after x (Close by Write group (Applied places)) =
    let s = seat_of x by in x.placed ++ places_from 0 (end_of_claim s) s.tables
placed_after x _ = x.placed

-- the step retires a memtable that is not empty
abbrev pub gives_file : PathState → Event → Bool
gives_file x (Put by (OldestLive table) value) =
    not (is_empty x table.0 (table_of x table.0).oldest_live)
gives_file x _ = false

-- A table's files follow one another: each begins where the last one ended.
abbrev pub files_after : PathState → Event → List WrittenFile
files_after x (Put by (OldestLive table) value) =
    let t = table.0 in
    let m = (table_of x t).oldest_live in
    if is_empty x t m then x.files
    else x.files ++ record {
      table = t;
      memtable = m;
      lower = last_upper x.files t;
      upper = key_of_bound (memtable_of x t m).bound;
    } ∷ []
files_after x _ = x.files

-- The deposited entries above one key and at or below another are made lasting.
abbrev pub is_between : ℕ → ℕ → EntryNote → Bool
is_between lower upper n = nat_lt lower n.end.0 && nat_le n.end.0 upper

abbrev pub logged_after : PathState → Event → List ℕ
logged_after x (Put by Synced value) =
    x.logged ++ map (λ (n : EntryNote). n.end.0) (filter (is_between x.synced value) x.notes)
logged_after x _ = x.logged

-- All droppable segments below the one of the synced key go that have not gone before.
abbrev pub newly_dropped : PathState → List ℕ
newly_dropped x =
    filter (λ (o : ℕ). not (is_logged x.dropped o) && is_droppable x o)
    (range_with_len 0 (ordinal_of x.synced))

abbrev pub has_filed : Seat → Bool
has_filed s = option_map_or (λ (turn : SyncTurn). turn.filed) s.sync false

abbrev pub dropped_after : PathState → Event → List ℕ
dropped_after x (GiveTurn by Sync) =
    if has_filed (seat_of x by) then x.dropped ++ newly_dropped x else x.dropped
dropped_after x _ = x.dropped

abbrev pub synced_after : ℕ → Event → ℕ
synced_after synced (Put by Synced value) = value
synced_after synced _ = synced

abbrev pub stopped_after : ℕ → Event → ℕ
stopped_after stopped (Put by Stopped value) = value
stopped_after stopped _ = stopped

-- what the step tells its seat
abbrev pub told_of : PathState → Event → Told
told_of x e = record { files = gives_file x e; marker = last_kept x.claims }

-- The acting seat's part; the others stay.
abbrev pub seats_after : PathState → Event → List Seat
seats_after x e =
    set x.seats (by_of e)
    (seat_after (seat_of x (by_of e)) e (reading x (place_of e)) (told_of x e))

-- the state after the step
abbrev pub next_of : PathState → Event → PathState
next_of x e = record {
  base = x.base;
  capacity = x.capacity;
  ordinals = x.ordinals;
  log = log_after x.log e;
  claims = claims_after x e;
  notes = notes_after x.notes e;
  write = groups_after Write x.write e;
  append = groups_after Append x.append e;
  tables = tables_after x e;
  placed = placed_after x e;
  seats = seats_after x e;
  synced = synced_after x.synced e;
  stopped = stopped_after x.stopped e;
  logged = logged_after x e;
  files = files_after x e;
  dropped = dropped_after x e;
}
