-- What is made lasting, and what seats found: what is true of it holds at the opening, and each
-- allowed step keeps it.
use Rattle.std.proofs.Common.{◌≡◌, ℕ, Some, refl, sym, ap, ◌∙◌, subst, arith}
use Rattle.std.proofs.lemmas.Option.{none-some}
use mathlib.Core.Logic.{inl}
use Rattle.clog_base.specs.Sizes.{IsWithinLimits}
use Rattle.path_core.specs.declared.event.Event.{Event}
use Rattle.path_core.specs.declared.seat.FlushTurn.{FlushTurn}
use Rattle.path_core.specs.declared.seat.SeatTable.{SeatTable}
use Rattle.path_core.specs.declared.state.Memtable.{Memtable}
use Rattle.path_core.specs.declared.state.PathState.{PathState}
use Rattle.path_core.specs.declared.state.TableState.{TableState}
use Rattle.path_core.specs.Parts.{
  fresh_seat,
  untouched,
  table_of,
  seat_table,
  fresh_table,
}
use Rattle.path_core.specs.Allowed.{IsStep}
use Rattle.path_core.specs.Next.{next_of}
use Rattle.path_core.specs.Runs.{opening}
use Rattle.path_core.specs.Whole.{CarriesWhole}
use Rattle.path_core.specs.Lawful.{IsLawfulLogged}
use Rattle.path_core.specs.LawfulLog.{LoggedIsSynced, SyncedIsMarker}
use Rattle.path_core.specs.LawfulOrders.{GroupsAreFew, SwitchesHeld}
use Rattle.path_core.specs.LawfulSeats.{SeatKnows, StageIs}
use Rattle.path_core.specs.LawfulTables.{BarriersBelow, LaterGroupsAbove}
use Rattle.path_core.proofs.seats.Columns.{untouched_there}
use Rattle.path_core.proofs.runs.OpeningLog.{at_first}
use Rattle.path_core.proofs.runs.OpeningPlaces.{fresh_at, opening_placing}
use Rattle.path_core.proofs.runs.KeepsPlacing.{keeps_placing}
use Rattle.path_core.proofs.tables.KeepsBarriers.{keeps_barriers}
use Rattle.path_core.proofs.orders.GroupsMove.{groups_move}
use Rattle.path_core.proofs.orders.KeepsFew.{keeps_few}
use Rattle.path_core.proofs.places.LaterTries.{keeps_later_tries}
use Rattle.op_core.specs.declared.count.Order.TheVariants.{Write, Append}
use Rattle.path_core.proofs.orders.KeepsSwitchHolders.{keeps_switches_held}
use Rattle.path_core.proofs.log.KeepsSynced.{keeps_later_groups, keeps_synced}
use Rattle.path_core.proofs.log.KeptMarker.{kept_under}
use Rattle.path_core.proofs.log.KeepsMarkers.{KeptIs}
use Rattle.path_core.proofs.log.MarkerWaits.{WaitsAre}
use Rattle.path_core.proofs.log.KeepsLogged.{keeps_logged_synced}
use Rattle.path_core.proofs.seats.KnownWords.{KnowsWords}
use Rattle.path_core.proofs.seats.KnownTables.{KnowsTable}
use Rattle.path_core.proofs.seats.KeepsSeatsKnow.{seat_knows, keeps_seats_know}
use Rattle.path_core.proofs.lists.Replaced.{replicated}

-- Each allowed step keeps it.
pub keeps_logged_part : (x : PathState) → IsLawfulLogged x → (e : Event) → IsStep x e
    → CarriesWhole e → IsLawfulLogged (next_of x e)
keeps_logged_part x G e a whole =
    let C = G.placing.core in
    let L = C.log in
    let P = keeps_placing x G.placing e a whole in record {
      placing = P;
      barriers_below_current = keeps_barriers x L.sized L.claims_tile_the_log L.orders C.switches
          G.barriers_below_current e a (λ o. (groups_move x L.orders o e a).current);
      groups_are_few = keeps_few x L.sized L.orders G.groups_are_few e a;
      no_try_below_the_grace = keeps_later_tries x C G.placing.places G.no_try_below_the_grace e a;
      a_switch_has_a_holder = keeps_switches_held x L.sized L.orders G.a_switch_has_a_holder e a;
      later_groups_log_above = keeps_later_groups x L G.later_groups_log_above e a;
      synced_below_the_log = keeps_synced x L G.synced_below_the_log e a;
      logged_is_the_synced_part = keeps_logged_synced x L G.later_groups_log_above
          G.synced_below_the_log G.logged_is_the_synced_part e a;
      seats_know = keeps_seats_know x C G.a_switch_has_a_holder G.seats_know e a P.core.switches;
    }

-- It holds at the opening.
module _ (tables seats capacity ordinals base : ℕ) where
  abbrev first : PathState
  first = opening tables seats capacity ordinals base

  -- no barrier was issued
  first_barriers : BarriersBelow first
  first_barriers = record {
    memtables = λ t m g h. absurd (none-some g (sym (ap (λ (k : Memtable). k.barrier)
        (fresh_at tables seats capacity ordinals base t m)) ∙ h));
    markers = λ i g h. absurd (omega arith);
  }

  -- one group of each order was made
  first_few : GroupsAreFew first
  first_few Write = omega arith
  first_few Append = omega arith

  -- no switch was made
  first_switches : SwitchesHeld first
  first_switches t inside = inl (λ l. absurd (let z : (table_of first t).newest ≡ 0
      = ap (λ (tb : TableState). tb.newest) (replicated tables t fresh_table) in omega arith))

  -- no marker was claimed
  first_later : LaterGroupsAbove first
  first_later = record { markers = λ i g h w r inside. absurd (omega arith) }

  -- nothing was synced
  first_synced : SyncedIsMarker first
  first_synced = record { below_log = omega arith; marker = λ l. absurd (omega arith) }

  -- nothing was logged
  first_logged : LoggedIsSynced first
  first_logged = record {
    gathered = λ c h. absurd (let l = h.1 in omega arith);
    logged = refl;
    files_are_below = λ f h. absurd (let l = h.1 in omega arith);
  }

  -- a fresh seat found nothing
  fresh_words : KnowsWords first fresh_seat
  fresh_words = record {
    words = record {
      write = record {
        current = λ g h. absurd (none-some g h);
        oldest = λ g h. absurd (none-some g h);
        finished = λ g h. absurd (none-some g h);
      };
      append = record {
        current = λ g h. absurd (none-some g h);
        oldest = λ g h. absurd (none-some g h);
        finished = λ g h. absurd (none-some g h);
      };
      log = λ key h. absurd (none-some key h);
      synced = λ key h. absurd (none-some key h);
      stopped = λ n h. absurd (none-some n h);
    };
    sync = λ turn h. absurd (none-some turn h);
  }

  -- nor of a table
  untouched_known : (table : TableState) → KnowsTable table untouched
  untouched_known table = record {
    bounds = λ found h. absurd (none-some found h);
    flush = λ turn h. absurd (none-some turn h);
  }

  -- so no seat knows anything
  first_known : (w : ℕ) → SeatKnows first w
  first_known w = seat_knows first w (at_first seats (λ s. KnowsWords first s) fresh_words w)
      (at_first seats (λ s. (t : ℕ) → KnowsTable (table_of first t) (seat_table s t))
      (λ t. subst (KnowsTable (table_of first t)) (sym (untouched_there t))
      (untouched_known (table_of first t))) w)
      (at_first seats (λ s. KeptIs first (kept_under s.sync))
      (λ kept h. absurd (none-some kept h)) w)
      (at_first seats (λ s. WaitsAre first w s) refl w)
      (at_first seats (λ s. (t : ℕ) (turn : FlushTurn) → (seat_table s t).flush ≡ Some turn
      → StageIs first t turn.stage)
      (λ t turn h. absurd (none-some turn (sym (ap (λ (st : SeatTable). st.flush)
      (untouched_there t)) ∙ h))) w)

  -- all of it at the opening
  pub opening_logged : IsWithinLimits tables seats capacity ordinals → IsLawfulLogged first
  opening_logged limits = record {
    placing = opening_placing tables seats capacity ordinals base limits;
    barriers_below_current = first_barriers;
    groups_are_few = first_few;
    no_try_below_the_grace = λ t m g h w k b. absurd (none-some g (sym (ap (λ (k : Memtable).
        k.barrier) (fresh_at tables seats capacity ordinals base t m)) ∙ b));
    a_switch_has_a_holder = first_switches;
    later_groups_log_above = first_later;
    synced_below_the_log = first_synced;
    logged_is_the_synced_part = first_logged;
    seats_know = first_known;
  }
