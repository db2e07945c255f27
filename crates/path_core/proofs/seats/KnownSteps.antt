-- What a seat knows of the words of no table after its own step.
use Rattle.std.proofs.Common.{ℕ, ◌||◌, true, Some, refl, sym, subst, arith}
use Rattle.std.proofs.lemmas.Option.{none-some, same_Some}
use Rattle.op_core.specs.declared.count.Order.TheVariants.{Write, Append}
use Rattle.path_core.specs.declared.event.Carried.TheVariants.{Nothing, Deposit, Applied}
use Rattle.path_core.specs.declared.event.ClaimKind.TheVariants.{Entry, Marker}
use Rattle.path_core.specs.declared.event.Cursor.{Cursor}
use Rattle.path_core.specs.declared.event.Cursor.TheVariants.{Synced, OldestLive, Stopped}
use Rattle.path_core.specs.declared.event.Event.{Event}
use Rattle.path_core.specs.declared.event.Event.TheVariants.{
  Look,
  Register,
  Close,
  OpenGroup,
  MoveCurrent,
  Expire,
  Advance,
  Claim,
  Switch,
  Raise,
  Finalise,
  TakeTurn,
  GiveTurn,
  Put,
}
use Rattle.path_core.specs.declared.event.SwitchPart.TheVariants.{Clear, Open, Mark}
use Rattle.path_core.specs.declared.event.Turn.TheVariants.{Sync, Flush}
use Rattle.path_core.specs.declared.seat.Issue.TheVariants.{Rest, Opened}
use Rattle.path_core.specs.declared.seat.SyncTurn.{SyncTurn}
use Rattle.path_core.specs.declared.state.PathState.{PathState}
use Rattle.path_core.specs.Keys.{claim_start}
use Rattle.path_core.specs.Parts.{seat_of, last_kept}
use Rattle.path_core.specs.Words.{by_of}
use Rattle.path_core.specs.Allowed.{IsStep}
use Rattle.path_core.specs.SeatAfter.{new_sync}
use Rattle.path_core.specs.Next.{next_of, gives_file}
use Rattle.path_core.specs.Lawful.{IsLawfulLog}
use Rattle.path_core.proofs.seats.Columns.{own_after}
use Rattle.path_core.proofs.seats.KnownWords.{SyncIs, KnowsWords, same_known, turn_mapped}
use Rattle.path_core.proofs.seats.WordsStay.{words_stay, known_left}
use Rattle.path_core.proofs.seats.KnownLooks.{looks_know}
use Rattle.path_core.proofs.seats.KnownChanges.{issued, claimed, log_known, new_turn_known}
use Rattle.path_core.proofs.seats.KnownIssues.{moves_know, advances_know}

module _ (x : PathState) (L : IsLawfulLog x) where
  -- It puts the synced key, retires a memtable, or stops the log.
  puts_know : (by : ℕ) (cursor : Cursor) (value : ℕ) → IsStep x (Put by cursor value)
      → KnowsWords x (seat_of x by)
      → KnowsWords (next_of x (Put by cursor value)) (own_after x (Put by cursor value))
  puts_know by Synced value a K = let e = Put by Synced value in record {
    words = let W = words_stay x L e a (seat_of x by).found K.words in record {
      write = W.write;
      append = W.append;
      log = W.log;
      synced = λ key h. let is = same_Some value key h in omega arith;
      stopped = W.stopped;
    };
    sync = turn_mapped (SyncIs (next_of x e)) (seat_of x by).sync
        (λ (turn : SyncTurn). record turn { synced = Some value })
        (λ turn h. let E = K.sync turn h in record {
          write = let G = E.write in record {
            current = G.current;
            oldest = G.oldest;
            finished = G.finished;
          };
          append = let G = E.append in record {
            current = G.current;
            oldest = G.oldest;
            finished = G.finished;
          };
          synced = λ key h. sym (same_Some value key h);
          stopped = E.stopped;
        });
  }
  puts_know by (OldestLive table) value a K =
      let e = Put by (OldestLive table) value in
      let files = gives_file x e in
      let now = known_left x L e a (λ b. b) (seat_of x by) K in record {
        words = now.words;
        sync = turn_mapped (SyncIs (next_of x e)) (seat_of x by).sync
            (λ (turn : SyncTurn). record turn { filed = turn.filed || files })
            (λ turn h. let E = now.sync turn h in record {
              write = E.write;
              append = E.append;
              synced = E.synced;
              stopped = E.stopped;
            });
      }
  puts_know by Stopped value a K = let e = Put by Stopped value in record {
    words = let W = words_stay x L e a (seat_of x by).found K.words in record {
      write = W.write;
      append = W.append;
      log = W.log;
      synced = W.synced;
      stopped = λ n h some. sym (same_Some value n h);
    };
    sync = turn_mapped (SyncIs (next_of x e)) (seat_of x by).sync
        (λ (turn : SyncTurn). record turn { stopped = Some value })
        (λ turn h. let E = K.sync turn h in record {
          write = let G = E.write in record {
            current = G.current;
            oldest = G.oldest;
            finished = G.finished;
          };
          append = let G = E.append in record {
            current = G.current;
            oldest = G.oldest;
            finished = G.finished;
          };
          synced = E.synced;
          stopped = λ n h. sym (same_Some value n h);
        });
  }

  -- The acting seat knows the words after its own step.
  pub own_knows : (e : Event) → IsStep x e → KnowsWords x (seat_of x (by_of e))
      → KnowsWords (next_of x e) (own_after x e)
  own_knows (MoveCurrent by order group) a K = moves_know x L by order group a K
  own_knows (Advance by order group) a K = advances_know x L by order group a K
  own_knows (Put by cursor value) a K = puts_know by cursor value a K
  own_knows (Look by at) a K =
      looks_know x L by at a (known_left x L (Look by at) a (λ b. b) (seat_of x by) K)
  own_knows (Register by Write group) a K = let e = Register by Write group in
      same_known _ (seat_of x by) _ refl refl (known_left x L e a (λ b. b) (seat_of x by) K)
  own_knows (Register by Append group) a K = let e = Register by Append group in
      same_known _ (seat_of x by) _ refl refl (known_left x L e a (λ b. b) (seat_of x by) K)
  own_knows (Close by Append group (Deposit note)) a K =
      let e = Close by Append group (Deposit note) in
      same_known _ (seat_of x by) _ refl refl (known_left x L e a (λ b. b) (seat_of x by) K)
  own_knows (Close by Append group Nothing) a K = let e = Close by Append group Nothing in
      same_known _ (seat_of x by) _ refl refl (known_left x L e a (λ b. b) (seat_of x by) K)
  own_knows (Close by Append group (Applied places)) a K = absurd a.row.1
  own_knows (Close by Write group carried) a K = let e = Close by Write group carried in
      same_known _ (seat_of x by) _ refl refl (known_left x L e a (λ b. b) (seat_of x by) K)
  own_knows (OpenGroup by order group) a K = let e = OpenGroup by order group in
      issued (next_of x e) (Opened order) (seat_of x by)
      (known_left x L e a (λ b. b) (seat_of x by) K)
  own_knows (Expire by order group) a K = let e = Expire by order group in
      issued (next_of x e) Rest (seat_of x by) (known_left x L e a (λ b. b) (seat_of x by) K)
  own_knows (Claim by from to Entry) a K =
      let e = Claim by from to Entry in
      let now = known_left x L e a (λ b. b) (seat_of x by) K in
      same_known (next_of x e) (record (seat_of x by) {
        found = record (seat_of x by).found { log = Some to.0 };
      }) _ refl refl (log_known (next_of x e) to.0 (seat_of x by) (omega arith) now)
  own_knows (Claim by from to Marker) a K =
      let e = Claim by from to Marker in
      let now = known_left x L e a (λ b. b) (seat_of x by) K in
      let found = record (seat_of x by).found { log = Some to.0 } in
      claimed (next_of x e) by (claim_start Marker from.0 to.0) (record (seat_of x by) {
        found = found;
        marker_waits = true;
      }) (same_known (next_of x e) (record (seat_of x by) { found = found }) _ refl refl
      (log_known (next_of x e) to.0 (seat_of x by) (omega arith) now))
  own_knows (Switch by table memtable Clear) a K = let e = Switch by table memtable Clear in
      same_known _ (seat_of x by) _ refl refl (known_left x L e a (λ b. b) (seat_of x by) K)
  own_knows (Switch by table memtable Open) a K = let e = Switch by table memtable Open in
      same_known _ (seat_of x by) _ refl refl (known_left x L e a (λ b. b) (seat_of x by) K)
  own_knows (Switch by table memtable Mark) a K = let e = Switch by table memtable Mark in
      same_known _ (seat_of x by) _ refl refl (known_left x L e a (λ b. b) (seat_of x by) K)
  own_knows (Raise by table memtable to) a K = let e = Raise by table memtable to in
      same_known _ (seat_of x by) _ refl refl (known_left x L e a (λ b. b) (seat_of x by) K)
  own_knows (Finalise by table memtable) a K = let e = Finalise by table memtable in
      same_known _ (seat_of x by) _ refl refl (known_left x L e a (λ b. b) (seat_of x by) K)
  own_knows (TakeTurn by Sync) a K =
      let e = TakeTurn by Sync in
      let now = known_left x L e a (λ b. b) (seat_of x by) K in record {
        words = now.words;
        sync = λ turn h. subst (SyncIs (next_of x e))
            (same_Some (new_sync (last_kept x.claims)) turn h)
            (new_turn_known (next_of x e) (last_kept x.claims));
      }
  own_knows (TakeTurn by (Flush table)) a K = let e = TakeTurn by (Flush table) in
      same_known _ (seat_of x by) _ refl refl (known_left x L e a (λ b. b) (seat_of x by) K)
  own_knows (GiveTurn by Sync) a K =
      let e = GiveTurn by Sync in
      let now = known_left x L e a (λ b. b) (seat_of x by) K in record {
        words = now.words;
        sync = λ turn h. absurd (none-some turn h);
      }
  own_knows (GiveTurn by (Flush table)) a K = let e = GiveTurn by (Flush table) in
      same_known _ (seat_of x by) _ refl refl (known_left x L e a (λ b. b) (seat_of x by) K)
