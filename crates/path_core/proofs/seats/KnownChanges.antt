-- Changes of a seat that concern no word: an issue, a marker, a log key that is found, a turn that
-- was just taken.
use Rattle.std.proofs.Common.{ℕ, ◌≤◌, Option, Some, arith}
use Rattle.std.proofs.lemmas.Option.{none-some, same_Some}
use Rattle.path_core.specs.declared.seat.Issue.{Issue}
use Rattle.path_core.specs.declared.seat.LastMarker.{LastMarker}
use Rattle.path_core.specs.declared.seat.Seat.{Seat}
use Rattle.path_core.specs.declared.state.PathState.{PathState}
use Rattle.path_core.specs.SeatParts.{in_sync, with_issue}
use Rattle.path_core.specs.SeatAfter.{marker_claimed, new_sync}
use Rattle.path_core.proofs.seats.KnownWords.{SyncIs, KnowsWords, turn_mapped}

-- an issue is no word
pub issued : (x : PathState) (issue : Issue) (s : Seat) → KnowsWords x s
    → KnowsWords x (in_sync (with_issue issue) s)
issued x issue s K = record {
  words = K.words;
  sync = turn_mapped (SyncIs x) s.sync (with_issue issue) (λ turn h. let E = K.sync turn h in
      record { write = E.write; append = E.append; synced = E.synced; stopped = E.stopped });
}

-- a marker is no word
pub claimed : (x : PathState) (by start : ℕ) (s : Seat) → KnowsWords x s
    → KnowsWords x (in_sync (marker_claimed by start) s)
claimed x by start s K = record {
  words = K.words;
  sync = turn_mapped (SyncIs x) s.sync (marker_claimed by start) (λ turn h.
      let E = K.sync turn h in
      record { write = E.write; append = E.append; synced = E.synced; stopped = E.stopped });
}

-- a log key is found
pub log_known : (x : PathState) (key : ℕ) (s : Seat) → key ≤ x.log → KnowsWords x s
    → KnowsWords x (record s { found = record s.found { log = Some key } })
log_known x key s low K = record {
  words = let W = K.words in record {
    write = W.write;
    append = W.append;
    log = λ k h. let is = same_Some key k h in omega arith;
    synced = W.synced;
    stopped = W.stopped;
  };
  sync = K.sync;
}

-- a Sync turn that was just taken knows of no word
pub new_turn_known : (x : PathState) (marker : Option LastMarker) → SyncIs x (new_sync marker)
new_turn_known x marker = record {
  write = record {
    current = λ g h. absurd (none-some g h);
    oldest = λ g h. absurd (none-some g h);
    finished = λ g h. absurd (none-some g h);
  };
  append = record {
    current = λ g h. absurd (none-some g h);
    oldest = λ g h. absurd (none-some g h);
    finished = λ g h. absurd (none-some g h);
  };
  synced = λ key h. absurd (none-some key h);
  stopped = λ n h. absurd (none-some n h);
}
