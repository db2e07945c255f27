-- What a seat knows of the words of no table after a Look.
use Rattle.std.proofs.Common.{◌≡◌, ℕ, Bool, true, false, cond, Some, refl, sym, ◌∙◌, subst, arith}
use Rattle.std.proofs.lemmas.Option.{same_Some}
use Rattle.op_core.specs.declared.count.Tally.TheVariants.{Expired}
use Rattle.path_core.specs.declared.event.Cursor.TheVariants.{Synced, OldestLive, Stopped}
use Rattle.path_core.specs.declared.event.Event.TheVariants.{Look}
use Rattle.path_core.specs.declared.event.Place.{Place}
use Rattle.path_core.specs.declared.event.Place.TheVariants.{
  Count,
  Current,
  Oldest,
  Log,
  Newest,
  Bound,
  TurnWord,
  CursorWord,
}
use Rattle.path_core.specs.declared.seat.SyncTurn.{SyncTurn}
use Rattle.path_core.specs.declared.state.PathState.{PathState}
use Rattle.path_core.specs.Parts.{groups_of, tally_of, seat_of}
use Rattle.path_core.specs.Words.{reading}
use Rattle.path_core.specs.Allowed.{IsStep}
use Rattle.path_core.specs.SeatAfter.{looked}
use Rattle.path_core.specs.SeatParts.{keeps, current_found, oldest_found, finished_found}
use Rattle.path_core.specs.Next.{next_of}
use Rattle.path_core.specs.Lawful.{IsLawfulLog}
use Rattle.path_core.proofs.orders.GroupsMove.{groups_move}
use Rattle.path_core.proofs.seats.KnownWords.{
  SyncIs,
  KnowsWords,
  same_known,
  turn_mapped,
  keeps_known,
}
use Rattle.path_core.proofs.seats.WordsStay.{groups_same}
use Rattle.op_core.specs.Tallies.{is_finished}
use Rattle.op_core.proofs.Finished.{is_finished-true}

module _ (x : PathState) (L : IsLawfulLog x) where
  -- A Look: what stands at the place is known.
  pub looks_know : (by : ℕ) (at : Place) → IsStep x (Look by at)
      → KnowsWords (next_of x (Look by at)) (seat_of x by)
      → KnowsWords (next_of x (Look by at)) (looked (seat_of x by) at (reading x at))
  looks_know by (Count o group) a K = choose (is_finished (tally_of x o group)) refl
    where
      y : PathState
      y = next_of x (Look by (Count o group))

      choose : (b : Bool) → is_finished (tally_of x o group) ≡ b
          → KnowsWords (next_of x (Look by (Count o group)))
          (cond b (keeps o (finished_found group) (seat_of x by)) (seat_of x by))
      choose false e = K
      choose true e = let M = groups_move x L.orders o (Look by (Count o group)) a in
          let now = M.finished group (is_finished-true (tally_of x o group) e) in
          keeps_known (next_of x (Look by (Count o group))) o (finished_found group) (seat_of x by)
          (λ groups G. record {
            current = G.current;
            oldest = G.oldest;
            finished = λ g h. subst
                (λ k. tally_of (next_of x (Look by (Count o group))) o k ≡ Expired 0)
                (same_Some group g h) now;
          }) (λ groups G. record {
            current = G.current;
            oldest = G.oldest;
            finished = λ g h. subst
                (λ k. tally_of (next_of x (Look by (Count o group))) o k ≡ Expired 0)
                (same_Some group g h) now;
          }) K
  looks_know by (Current o) a K =
      let y = next_of x (Look by (Current o)) in
      let S = groups_same x L o (Look by (Current o)) (λ b. b) in
      keeps_known y o (current_found (groups_of x o).current) (seat_of x by)
      (λ groups G. record {
        current = λ g h. let is = same_Some _ g h in let s = S.current in omega arith;
        oldest = G.oldest;
        finished = G.finished;
      }) (λ groups G. record {
        current = λ g h. sym (same_Some _ g h) ∙ sym S.current;
        oldest = G.oldest;
        finished = G.finished;
      }) K
  looks_know by (Oldest o) a K =
      let y = next_of x (Look by (Oldest o)) in
      let S = groups_same x L o (Look by (Oldest o)) (λ b. b) in
      keeps_known y o (oldest_found (groups_of x o).oldest) (seat_of x by)
      (λ groups G. record {
        current = G.current;
        oldest = λ g h. let is = same_Some _ g h in let s = S.oldest in omega arith;
        finished = G.finished;
      }) (λ groups G. record {
        current = G.current;
        oldest = λ g h. sym (same_Some _ g h) ∙ sym S.oldest;
        finished = G.finished;
      }) K
  looks_know by Log a K = record {
    words = let W = K.words in record {
      write = W.write;
      append = W.append;
      log = λ key h. let is = same_Some x.log key h in omega arith;
      synced = W.synced;
      stopped = W.stopped;
    };
    sync = K.sync;
  }
  looks_know by (Newest t) a K = same_known _ (seat_of x by) _ refl refl K
  looks_know by (Bound t m) a K = same_known _ (seat_of x by) _ refl refl K
  looks_know by (TurnWord turn) a K = K
  looks_know by (CursorWord Synced) a K = record {
    words = let W = K.words in record {
      write = W.write;
      append = W.append;
      log = W.log;
      synced = λ key h. let is = same_Some x.synced key h in omega arith;
      stopped = W.stopped;
    };
    sync = turn_mapped (SyncIs (next_of x (Look by (CursorWord Synced)))) (seat_of x by).sync
        (λ (turn : SyncTurn). record turn { synced = Some x.synced })
        (λ turn h. let E = K.sync turn h in record {
          write = E.write;
          append = E.append;
          synced = λ key h. sym (same_Some x.synced key h);
          stopped = E.stopped;
        });
  }
  looks_know by (CursorWord (OldestLive t)) a K = same_known _ (seat_of x by) _ refl refl K
  looks_know by (CursorWord Stopped) a K = record {
    words = let W = K.words in record {
      write = W.write;
      append = W.append;
      log = W.log;
      synced = W.synced;
      stopped = λ n h some. sym (same_Some x.stopped n h);
    };
    sync = turn_mapped (SyncIs (next_of x (Look by (CursorWord Stopped)))) (seat_of x by).sync
        (λ (turn : SyncTurn). record turn { stopped = Some x.stopped })
        (λ turn h. let E = K.sync turn h in record {
          write = E.write;
          append = E.append;
          synced = E.synced;
          stopped = λ n h. sym (same_Some x.stopped n h);
        });
  }
