-- A Look at a word of a table: what stands there is known.
use Rattle.std.proofs.Common.{
  ℕ,
  ◌<◌,
  Bool,
  true,
  false,
  cond,
  length,
  get_or,
  set,
  Some,
  refl,
  sym,
  subst,
  arith,
}
use Rattle.std.proofs.Math.ListN.{get_or-map as get_or-map_default}
use Rattle.op_core.specs.declared.count.Order.TheVariants.{Write, Append}
use Rattle.path_core.specs.declared.event.Cursor.TheVariants.{Synced, OldestLive, Stopped}
use Rattle.path_core.specs.declared.event.Event.TheVariants.{Look}
use Rattle.path_core.specs.declared.event.Place.{Place}
use Rattle.path_core.specs.declared.event.Place.TheVariants.{
  Count,
  Current,
  Oldest,
  Log,
  Newest,
  Bound,
  TurnWord,
  CursorWord,
}
use Rattle.path_core.specs.declared.seat.FlushTurn.{FlushTurn}
use Rattle.path_core.specs.declared.seat.Seat.{Seat}
use Rattle.path_core.specs.declared.seat.SeatTable.{SeatTable}
use Rattle.path_core.specs.declared.state.PathState.{PathState}
use Rattle.path_core.specs.declared.state.TableState.{TableState}
use Rattle.path_core.specs.Parts.{
  fresh_table,
  untouched,
  seat_of,
  seat_table,
  table_of,
  memtable_of,
  tally_of,
}
use Rattle.path_core.specs.Words.{reading}
use Rattle.path_core.specs.Allowed.{IsStep}
use Rattle.path_core.specs.SeatAfter.{looked}
use Rattle.path_core.specs.SeatParts.{
  at_table,
  in_flush,
  bound_found,
  log_found,
  tries_bound,
  begins_at,
  deposited_end,
  has_note_of,
  keeps,
  finished_found,
  key_found,
}
use Rattle.path_core.specs.Lawful.{IsLawfulLog}
use Rattle.path_core.proofs.lists.Replaced.{put_at}
use Rattle.path_core.proofs.seats.Columns.{at_table_same, at_table_other, seat_fits}
use Rattle.path_core.proofs.seats.KnownTables.{KnowsTable}
use Rattle.path_core.proofs.seats.TableParts.{
  stage_known,
  newest_known,
  oldest_known,
  bound_known,
  tries_known,
  begins_known,
}
use Rattle.path_core.proofs.seats.KnownMoves.{at_each}
use Rattle.op_core.specs.Tallies.{is_finished}

module _ (x : PathState) (L : IsLawfulLog x) where
  -- A step's table is one of the seat's.
  pub fits : (t w : ℕ) → t < length x.tables → t < length (seat_of x w).tables
  fits t w inside = seat_fits x L.sized t w inside

  -- what a seat knows of each table
  abbrev pub Knows : Seat → Type 0
  Knows s = (t : ℕ) → KnowsTable (table_of x t) (seat_table s t)

  -- one table changed, and its part of the seat
  pub both_at : (s : Seat) (t : ℕ) (table : TableState) (f : SeatTable → SeatTable)
      → t < length x.tables → t < length s.tables → KnowsTable table (f (seat_table s t)) → Knows s
      → (u : ℕ)
      → KnowsTable (get_or (set x.tables t table) u fresh_table) (seat_table (at_table t f s) u)
  both_at s t table f inside room here others = put_at x.tables t table fresh_table inside
      (λ u tb. KnowsTable tb (seat_table (at_table t f s) u))
      (subst (KnowsTable table) (sym (at_table_same t f s room)) here)
      (λ u n. subst (KnowsTable (table_of x u)) (sym (at_table_other t u f s n)) (others u))

  -- A Look: what stands at the place is known.
  pub looks_at : (by : ℕ) (at : Place) → IsStep x (Look by at) → Knows (seat_of x by) → (t : ℕ)
      → KnowsTable (table_of x t) (seat_table (looked (seat_of x by) at (reading x at)) t)
  looks_at by (Count Write group) a K t = choose (is_finished (tally_of x Write group))
    where
      choose : (b : Bool) → KnowsTable (table_of x t) (seat_table
          (cond b (keeps Write (finished_found group) (seat_of x by)) (seat_of x by)) t)
      choose true = K t
      choose false = K t
  looks_at by (Count Append group) a K t = choose (is_finished (tally_of x Append group))
    where
      choose : (b : Bool) → KnowsTable (table_of x t) (seat_table
          (cond b (keeps Append (finished_found group) (seat_of x by)) (seat_of x by)) t)
      choose true = K t
      choose false = K t
  looks_at by (Current Write) a K t = K t
  looks_at by (Current Append) a K t = K t
  looks_at by (Oldest Write) a K t = K t
  looks_at by (Oldest Append) a K t = K t
  looks_at by Log a K t = subst (KnowsTable (table_of x t))
      (sym (get_or-map_default (log_found x.log) (seat_of x by).tables t untouched))
      (stage_known (table_of x t) (seat_table (seat_of x by) t)
      (λ turn. key_found x.log turn.stage) (K t))
  looks_at by (Newest table) a K t = at_each table.0
      (in_flush (λ (turn : FlushTurn). record turn { newest = Some (table_of x table.0).newest }))
      (seat_of x by) (λ u st. KnowsTable (table_of x u) st) (fits table.0 by a.is_there)
      (newest_known (table_of x table.0) (table_of x table.0).newest
      (seat_table (seat_of x by) table.0) refl (K table.0)) K t
  looks_at by (Bound table m) a K t = at_each table.0
      (λ (st : SeatTable). tries_bound (deposited_end (seat_of x by)) m
      (memtable_of x table.0 m).bound (bound_found m (memtable_of x table.0 m).bound st))
      (seat_of x by) (λ u st. KnowsTable (table_of x u) st) (fits table.0 by a.is_there.0)
      (tries_known (table_of x table.0) (deposited_end (seat_of x by)) m
      (memtable_of x table.0 m).bound _ (bound_known (table_of x table.0) (table_of x table.0) m
      (memtable_of x table.0 m).bound (seat_table (seat_of x by) table.0) a.is_there.1 refl refl
      refl (K table.0))) K t
  looks_at by (TurnWord turn) a K t = K t
  looks_at by (CursorWord Synced) a K t = K t
  looks_at by (CursorWord (OldestLive table)) a K t = at_each table.0
      (λ (st : SeatTable). begins_at (has_note_of (seat_of x by) table.0)
      (table_of x table.0).oldest_live (in_flush (λ (turn : FlushTurn).
      record turn { oldest_live = Some (table_of x table.0).oldest_live }) st))
      (seat_of x by) (λ u st. KnowsTable (table_of x u) st) (fits table.0 by a.is_there)
      (begins_known (table_of x table.0) (has_note_of (seat_of x by) table.0)
      (table_of x table.0).oldest_live _ (oldest_known (table_of x table.0) (table_of x table.0)
      (table_of x table.0).oldest_live (seat_table (seat_of x by) table.0) (omega arith)
      (λ m. refl) refl refl (K table.0))) K t
  looks_at by (CursorWord Stopped) a K t = K t
