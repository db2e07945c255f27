-- What seats found or put still stands: each allowed step keeps it.
use Rattle.std.proofs.Common.{◌≡◌, ℕ, Some, sym, ap, ◌∙◌}
use Rattle.path_core.specs.declared.event.Event.{Event}
use Rattle.path_core.specs.declared.seat.FlushTurn.{FlushTurn}
use Rattle.path_core.specs.declared.seat.Seat.{Seat}
use Rattle.path_core.specs.declared.state.PathState.{PathState}
use Rattle.path_core.specs.Parts.{seat_of, seat_table, table_of}
use Rattle.path_core.specs.Words.{by_of}
use Rattle.path_core.specs.Allowed.{IsStep}
use Rattle.path_core.specs.Next.{next_of}
use Rattle.path_core.specs.Lawful.{IsLawfulCore}
use Rattle.path_core.specs.LawfulOrders.{SwitchesHeld}
use Rattle.path_core.specs.LawfulTables.{SwitchesAre}
use Rattle.path_core.specs.LawfulSeats.{SeatKnows, StageIs}
use Rattle.path_core.proofs.seats.Columns.{each_seat}
use Rattle.path_core.proofs.log.KeptMarker.{kept_under, kept_turn}
use Rattle.path_core.proofs.log.KeepsMarkers.{KeptIs, keeps_markers}
use Rattle.path_core.proofs.log.MarkerWaits.{WaitsAre, keeps_waiting}
use Rattle.path_core.proofs.tables.KeepsStages.{keeps_stages, staged_from, stage_is}
use Rattle.path_core.proofs.seats.KnownWords.{KnowsWords}
use Rattle.path_core.proofs.seats.WordsStay.{others_know}
use Rattle.path_core.proofs.seats.KnownSteps.{own_knows}
use Rattle.path_core.proofs.seats.KnownTables.{KnowsTable}
use Rattle.path_core.proofs.seats.OwnTables.{own_tables, other_tables}

-- What a seat knows, by its parts.
record KnowsAll (x : PathState) (s : Seat) : Type 0 where
  pub words : KnowsWords x s
  pub tables : (t : ℕ) → KnowsTable (table_of x t) (seat_table s t)

-- from what a seat knows to its parts
all_known : (x : PathState) (w : ℕ) → SeatKnows x w → KnowsAll x (seat_of x w)
all_known x w K = record {
  words = record {
    words = K.words;
    sync = λ turn h. let E = K.sync turn h in record {
      write = E.write;
      append = E.append;
      synced = E.synced;
      stopped = E.stopped;
    };
  };
  tables = λ t. record {
    bounds = λ found h. let B = K.bounds t found h in record { made = B.made; stays = B.stays };
    flush = λ turn h. let F = K.flush t turn h in record {
      newest = F.newest;
      oldest_live = F.oldest_live;
      bound = F.bound;
      cleared = F.cleared;
    };
  };
}

-- and back
pub seat_knows : (x : PathState) (w : ℕ) → KnowsWords x (seat_of x w)
    → ((t : ℕ) → KnowsTable (table_of x t) (seat_table (seat_of x w) t))
    → KeptIs x (kept_under (seat_of x w).sync) → WaitsAre x w (seat_of x w)
    → ((t : ℕ) (turn : FlushTurn) → (seat_table (seat_of x w) t).flush ≡ Some turn
    → StageIs x t turn.stage) → SeatKnows x w
seat_knows x w W K kept waits stages = record {
  words = W.words;
  sync = λ turn h. let E = W.sync turn h in record {
    write = E.write;
    append = E.append;
    synced = E.synced;
    stopped = E.stopped;
    marker = kept turn.marker (ap kept_under h);
  };
  bounds = λ t found h. let B = (K t).bounds found h in
      record { made = B.made; stays = B.stays };
  flush = λ t turn h. let F = (K t).flush turn h in record {
    newest = F.newest;
    oldest_live = F.oldest_live;
    bound = F.bound;
    cleared = F.cleared;
    stage = stages t turn h;
  };
  marker_waits = waits;
}

-- Each allowed step keeps that what each seat found or put still stands.
pub keeps_seats_know : (x : PathState) → IsLawfulCore x → SwitchesHeld x
    → ((w : ℕ) → SeatKnows x w) → (e : Event) → IsStep x e → SwitchesAre (next_of x e) → (w : ℕ)
    → SeatKnows (next_of x e) w
keeps_seats_know x C S K e a now w =
    let L = C.log in
    let A = each_seat x e a.seat (λ _ s. KnowsAll (next_of x e) s)
    (let own = all_known x (by_of e) (K (by_of e)) in record {
      words = own_knows x L e a own.words;
      tables = own_tables x L e a own.tables;
    })
    (λ v apart. let other = all_known x v (K v) in record {
      words = others_know x L e a v apart other.words;
      tables = other_tables x L e a v apart other.tables;
    }) w in
    seat_knows (next_of x e) w A.words A.tables
    (keeps_markers x L.orders (λ v kept h. let held = kept_turn (seat_of x v).sync kept h in
    sym held.2 ∙ ((K v).sync held.0 held.1).marker) e a w)
    (keeps_waiting x (λ v. (K v).marker_waits) e a w)
    (λ t. stage_is (next_of x e) now w t (keeps_stages x C S
    (λ v u. staged_from x u (seat_table (seat_of x v) u).flush
    (λ turn h. ((K v).flush u turn h).stage)) e a w t))
