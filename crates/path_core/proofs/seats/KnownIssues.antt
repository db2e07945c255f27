-- The holder of the Sync turn makes the next group current, or advances the oldest one, and knows
-- the words after it.
use Rattle.std.proofs.Common.{ℕ, sym, arith}
use Rattle.std.proofs.lemmas.Option.{same_Some}
use Rattle.op_core.specs.declared.count.Order.{Order}
use Rattle.op_core.specs.declared.count.Order.TheVariants.{Write, Append}
use Rattle.path_core.specs.declared.event.Event.TheVariants.{MoveCurrent, Advance}
use Rattle.path_core.specs.declared.state.PathState.{PathState}
use Rattle.path_core.specs.Parts.{seat_of}
use Rattle.path_core.specs.Allowed.{IsStep}
use Rattle.path_core.specs.SeatParts.{in_turn_groups, oldest_found}
use Rattle.path_core.specs.SeatAfter.{moved_turn}
use Rattle.path_core.specs.Next.{next_of}
use Rattle.path_core.specs.Lawful.{IsLawfulLog}
use Rattle.path_core.proofs.seats.Columns.{own_after}
use Rattle.path_core.proofs.seats.KnownWords.{SyncIs, KnowsWords, turn_mapped}
use Rattle.path_core.proofs.seats.WordsStay.{words_stay}

module _ (x : PathState) (L : IsLawfulLog x) where
  -- The holder of the Sync turn makes the next group current.
  pub moves_know : (by : ℕ) (o : Order) (group : ℕ) → IsStep x (MoveCurrent by o group)
      → KnowsWords x (seat_of x by)
      → KnowsWords (next_of x (MoveCurrent by o group)) (own_after x (MoveCurrent by o group))
  moves_know by Write group a K = let e = MoveCurrent by Write group in record {
    words = words_stay x L e a (seat_of x by).found K.words;
    sync = turn_mapped (SyncIs (next_of x e)) (seat_of x by).sync
        (moved_turn Write by x.write.current group)
        (λ turn h. let E = K.sync turn h in record {
          write = let G = E.write in record {
            current = λ g h. sym (same_Some group g h);
            oldest = G.oldest;
            finished = G.finished;
          };
          append = let G = E.append in record {
            current = G.current;
            oldest = G.oldest;
            finished = G.finished;
          };
          synced = E.synced;
          stopped = E.stopped;
        });
  }
  moves_know by Append group a K = let e = MoveCurrent by Append group in record {
    words = words_stay x L e a (seat_of x by).found K.words;
    sync = turn_mapped (SyncIs (next_of x e)) (seat_of x by).sync
        (moved_turn Append by x.append.current group)
        (λ turn h. let E = K.sync turn h in record {
          write = let G = E.write in record {
            current = G.current;
            oldest = G.oldest;
            finished = G.finished;
          };
          append = let G = E.append in record {
            current = λ g h. sym (same_Some group g h);
            oldest = G.oldest;
            finished = G.finished;
          };
          synced = E.synced;
          stopped = E.stopped;
        });
  }

  -- It advances the oldest one.
  pub advances_know : (by : ℕ) (o : Order) (group : ℕ) → IsStep x (Advance by o group)
      → KnowsWords x (seat_of x by)
      → KnowsWords (next_of x (Advance by o group)) (own_after x (Advance by o group))
  advances_know by Write group a K = let e = Advance by Write group in record {
    words = let W = words_stay x L e a (seat_of x by).found K.words in record {
      write = let G = W.write in record {
        current = G.current;
        oldest = λ g h. let is = same_Some group g h in omega arith;
        finished = G.finished;
      };
      append = W.append;
      log = W.log;
      synced = W.synced;
      stopped = W.stopped;
    };
    sync = turn_mapped (SyncIs (next_of x e)) (seat_of x by).sync
        (in_turn_groups Write (oldest_found group)) (λ turn h. let E = K.sync turn h in record {
          write = let G = E.write in record {
            current = G.current;
            oldest = λ g h. sym (same_Some group g h);
            finished = G.finished;
          };
          append = let G = E.append in record {
            current = G.current;
            oldest = G.oldest;
            finished = G.finished;
          };
          synced = E.synced;
          stopped = E.stopped;
        });
  }
  advances_know by Append group a K = let e = Advance by Append group in record {
    words = let W = words_stay x L e a (seat_of x by).found K.words in record {
      write = W.write;
      append = let G = W.append in record {
        current = G.current;
        oldest = λ g h. let is = same_Some group g h in omega arith;
        finished = G.finished;
      };
      log = W.log;
      synced = W.synced;
      stopped = W.stopped;
    };
    sync = turn_mapped (SyncIs (next_of x e)) (seat_of x by).sync
        (in_turn_groups Append (oldest_found group)) (λ turn h. let E = K.sync turn h in record {
          write = let G = E.write in record {
            current = G.current;
            oldest = G.oldest;
            finished = G.finished;
          };
          append = let G = E.append in record {
            current = G.current;
            oldest = λ g h. sym (same_Some group g h);
            finished = G.finished;
          };
          synced = E.synced;
          stopped = E.stopped;
        });
  }
