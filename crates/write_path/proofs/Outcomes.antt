-- What a run leaves behind when a path is closed.
use Rattle.std.proofs.Common.{◌≡◌, ℕ, zero, suc, ◌-◌, ◌*◌, ◌<◌, ◌≤◌, Bool, true, false, List, []}
use Rattle.std.proofs.Common.{◌∷◌, ◌++◌, map, length, Some, None, refl, sym, ap, ◌∙◌, subst, arith}
use Rattle.std.specs.List.{All, Contains, filter, range_with_len}
use Rattle.std.specs.List.Sorted.{IsPermutation}
use Rattle.std.proofs.lemmas.Bool.{false≢true}
use Rattle.std.proofs.lemmas.List.{get_or_default, length-map, length-replicate}
use Rattle.std.proofs.lemmas.List.Elements.{All-nil, All-cons, All-contains, All-head, All-tail}
use Rattle.std.proofs.lemmas.List.Sorted.{IsPermutation-refl, IsPermutation-sym}
use Rattle.std.proofs.lemmas.List.Sorted.{IsPermutation-trans}
use Rattle.path_core.specs.declared.event.Event.{Event}
use Rattle.path_core.specs.declared.note.EntryNote.{EntryNote}
use Rattle.path_core.specs.declared.state.Claim.{Claim}
use Rattle.path_core.specs.History.{IsHistory}
use Rattle.path_core.specs.Keeper.{Holding, HasRisen, PutFile}
use Rattle.path_core.specs.LawfulLog.{claim_in, entry_claim, is_at_most}
use Rattle.path_core.specs.Next.{is_between}
use Rattle.path_core.specs.declared.state.PathState.{PathState}
use Rattle.path_core.specs.declared.state.WrittenFile.{WrittenFile}
use Rattle.path_core.specs.declared.seat.Seat.{Seat}
use Rattle.path_core.specs.Parts.{fresh_seat, no_claim, seat_of}
use Rattle.path_core.specs.Keys.{ordinal_of}
use Rattle.path_core.proofs.frame.Runs.{past_sizes}
use Rattle.path_core.proofs.lists.Inserted.{map_from, map_old}
use Rattle.path_core.proofs.log.History.{is_history}
use Rattle.path_core.proofs.runs.EveryRun.{opening_lawful}
use Rattle.path_rule.specs.declared.lasting.Beside.{Beside}
use Rattle.path_rule.specs.declared.lasting.Filed.{Filed}
use Rattle.path_rule.specs.declared.lasting.Lasting.{Lasting}
use Rattle.path_rule.specs.declared.lasting.PutTable.{PutTable}
use Rattle.path_rule.specs.declared.view.PathSize.{PathSize}
use Rattle.path_rule.specs.Filing.{file_range, put_range}
use Rattle.path_rule.specs.Lasts.{lasting_of, put_table, shown, none_lasting, stopped_with}
use Rattle.path_rule.specs.Lasts.{fault_count}
use Rattle.path_rule.specs.Rule.{IsFit, start_of, event_of, steps_by}
use Rattle.path_rule.specs.Sharing.{EndsUnused}
use Rattle.path_rule.specs.Trails.{TrailTells}
use Rattle.write_path.specs.ClosedFiles.{AreEmpty, AreFinal, AreGiven, CoversFlushed, IsFlushedBy}
use Rattle.write_path.specs.ClosedFiles.{held_range}
use Rattle.write_path.specs.Closed.{IsOfSize, IsOutcome, IsStoppedFor, IsSyncedFor, AreStoppedFor}
use Rattle.write_path.specs.Closed.{AreSyncedFor, ArePartedFor, HasComeFor, all_writes}
use Rattle.write_path.specs.OneRun.{EndsBy}
use Rattle.write_path.specs.Opened.{numbers_of}
use Rattle.write_path.specs.Sealed.{AreSealed, AreSealedApart}
use Rattle.write_path.proofs.Accounted.{each_once, each_there}
use Rattle.write_path.proofs.AskedFiles.{asked_by}
use Rattle.write_path.proofs.BesideStays.{none_of, none_shown}
use Rattle.write_path.proofs.CoveredFiles.{covers, ranges_shown, true_as_shown}
use Rattle.write_path.proofs.FewSegments.{few_segments}
use Rattle.write_path.proofs.FilesGiven.{CameBy, files_given}
use Rattle.write_path.proofs.ToldFiles.{are_given, stand_for_some}
use Rattle.path_rule.proofs.log.FilesShown.{few_files}
use Rattle.path_rule.proofs.log.NoneDropped.{none_dropped}
use Rattle.path_table.specs.declared.trying.PathSeat.{PathSeat}
use Rattle.path_table.specs.declared.bounds.TableBounds.{TableBounds}
use Rattle.path_table.specs.ClosedBounds.{TellsBounds}
use Rattle.path_table.specs.Members.{view_of, part_of}
use Rattle.write_path.proofs.NonePassed.{first_part, none_passed}
use Rattle.write_path.proofs.Parted.{parts_at}
use Rattle.write_path.proofs.PlacedOnce.{placed_once}
use Rattle.write_path.proofs.Histories.{noted, writes_are, run_notes, by_all, all_noted}
use Rattle.write_path.proofs.SealedApart.{behind_sealed, sealed_apart}

-- ---- where a keeper has stopped, it tells the count of a stopped log

told_count : (stopped : Bool) (faults n : ℕ) → stopped ≡ true
    → stopped_with stopped faults ≡ fault_count n → (0 < n) × (n ≡ faults)
told_count false faults n is e = absurd (false≢true is)
told_count true faults zero is e = absurd (let q : Some faults ≡ None = e in cc)
told_count true faults (suc n) is e =
    (omega arith, sym (let q : Some faults ≡ Some (suc n) = e in some_is faults (suc n) q))
  where
    some_is : (a b : ℕ) → Some a ≡ Some b → a ≡ b
    some_is a b q = cc

-- a keeper that tells the count of a stopped log has stopped with it
stopped_by : (stopped : Bool) (faults n : ℕ) → 0 < n
    → stopped_with stopped faults ≡ fault_count n → (stopped ≡ true) × (faults ≡ n)
stopped_by true faults zero some e = absurd (omega arith)
stopped_by true faults (suc n) some e =
    (refl, let q : Some faults ≡ Some (suc n) = e in some_same faults (suc n) q)
  where
    some_same : (a b : ℕ) → Some a ≡ Some b → a ≡ b
    some_same a b q = cc
stopped_by false faults zero some e = absurd (omega arith)
stopped_by false faults (suc n) some e = absurd (let q : None ≡ Some (suc n) = e in cc)

none_told : (stopped : Bool) (faults : ℕ) → stopped ≡ true → stopped_with stopped faults ≡ None → ⊥
none_told false faults is e = false≢true is
none_told true faults is e = absurd (let q : Some faults ≡ None = e in cc)

sized_as : (size : PathSize) (l : Lasting) (h : Holding) → lasting_of h ≡ l
    → l.base ≡ size.base → l.capacity ≡ size.capacity → l.ordinals ≡ size.ordinals
    → l.at_open ≡ size.at_open → IsOfSize size h
sized_as size l h same base capacity ordinals at_open = record {
  base_is = ap (λ (k : Lasting). k.base) same ∙ base;
  capacity_is = ap (λ (k : Lasting). k.capacity) same ∙ capacity;
  ordinals_are = ap (λ (k : Lasting). k.ordinals) same ∙ ordinals;
  at_open_is = ap (λ (k : Lasting). k.at_open) same ∙ at_open;
}

module _ {K : Type 0} (size : PathSize) where
  -- what the seats wrote is what steps of their numbers deposited
  writes_as : (events : List Event) (seats : List (PathSeat K))
      → All (λ (s : PathSeat K). map event_of (view_of s.member).trail
      ≡ steps_by s.member.number events) seats
      → all_writes seats ≡ by_all (numbers_of seats) events
  writes_as events [] own = refl
  writes_as events (s ∷ seats) own =
      let P = λ (p : PathSeat K). map event_of (view_of p.member).trail
      ≡ steps_by p.member.number events in
      let first = writes_are (view_of s.member).trail
      ∙ ap (λ (l : List Event). noted l) (All-head P s seats own) in
      let others = writes_as events seats (All-tail P s seats own) in
      λ i. first i ++ others i

  -- what holds of the machine's part holds of each seat
  known_of : (x : PathState) (P Q : PathSeat K → Type 0)
      → ((s : PathSeat K) → P s → Q s) → (seats : List (PathSeat K)) → All P seats → All Q seats
  known_of x P Q each [] all = All-nil Q
  known_of x P Q each (s ∷ seats) all =
      All-cons Q s seats (each s (All-head P s seats all))
      (known_of x P Q each seats (All-tail P s seats all))

  -- what holds of each seat by two things that do
  of_both : (P Q R : PathSeat K → Type 0) → ((s : PathSeat K) → P s → Q s → R s)
      → (seats : List (PathSeat K)) → All P seats → All Q seats → All R seats
  of_both P Q R each [] p q = All-nil R
  of_both P Q R each (s ∷ seats) p q =
      All-cons R s seats (each s (All-head P s seats p) (All-head Q s seats q))
      (of_both P Q R each seats (All-tail P s seats p) (All-tail Q s seats q))

  -- no seat has claimed anything, since each of them is idle
  idle_all : (x : PathState) (seats : List (PathSeat K))
      → All (λ (s : PathSeat K). part_of s.member ≡ seat_of x s.member.number) seats
      → IsPermutation (range_with_len 0 size.seats) (numbers_of seats)
      → (w : ℕ) → w < size.seats → (seat_of x w).claim ≡ None
  idle_all x seats parts all w below =
      let P = λ (s : PathSeat K). part_of s.member ≡ seat_of x s.member.number in
      let one = map_from (λ (s : PathSeat K). s.member.number) seats w
      (each_there size.seats (numbers_of seats) all w below) in
      let s : PathSeat K = one.0 in
      subst (λ k. (seat_of x k).claim ≡ None) one.2
      (sym (ap (λ (p : Seat). p.claim) (All-contains P seats s parts one.1)) ∙ s.unclaimed)

  pub outcome : (o : Beside) (seats : List (PathSeat K)) (end : ℕ) (h : Holding)
      → (E : EndsBy o size seats end h)
      → IsPermutation (range_with_len 0 size.seats) (numbers_of seats) → (bounds : TableBounds)
      → TellsBounds E.ended.core bounds
      → (a : IsOutcome size seats end h) × TellsBounds a.core bounds
  outcome o seats end h E all bounds told = let e = E.ended in let x = e.core in let L = e.lawful in
      let z = past_sizes e.events (start_of size) x e.run in
      let same = e.lasting_is in
      let synced : h.synced ≡ x.synced = ap (λ (k : Lasting). k.synced) same in
      let stops : stopped_with h.stopped h.faults ≡ fault_count x.stopped =
      ap (λ (k : Lasting). k.stopped) same in
      let many : length (start_of size).seats ≡ size.seats = length-replicate size.seats fresh_seat
      in
      let first = opening_lawful size.tables size.seats size.capacity size.ordinals size.base e.fit
      in
      let files_shown : map put_table h.files ≡ e.filed.files =
      ap (λ (k : Lasting). k.filed.files) same in
      let dropped : h.dropped ≡ e.dropped = ap (λ (k : Lasting). k.dropped) same in
      let files_are : map held_range h.files ≡ map file_range x.files = ranges_shown h.files
      ∙ (ap (λ (l : List PutTable). map put_range l) files_shown ∙ e.filing.ranged) in
      let archived : h.archived ≡ e.filed.archived =
      ap (λ (k : Lasting). k.filed.archived) same in
      let archives : h.opening.archives ≡ o.archives =
      ap (λ (k : Lasting). k.beside.archives) same in
      let came = λ (f : WrittenFile) (there : Contains x.files f). subst
      (λ (k : ℕ). CameBy k e.events x f) many
      (files_given e.events (start_of size) x first refl e.run f there) in
      let idle = λ (w : ℕ) (l : w < length x.seats). idle_all x seats E.parts all w
      (let long = z.seats in omega (arith, l, long, many)) in (
        record {
          fit = e.fit;
          core = x;
          events = e.events;
          run = e.run;
          built = e.built;
          own = E.own;
          end_is = e.log_is;
          of_writes = subst (λ (l : List EntryNote). IsPermutation l x.notes)
              (sym (writes_as e.events seats E.own))
              (IsPermutation-trans (by_all (numbers_of seats) e.events) (noted e.events) x.notes
              (IsPermutation-sym (noted e.events) (by_all (numbers_of seats) e.events)
              (all_noted (numbers_of seats) e.events (start_of size) x e.run
              (λ w l. each_once size.seats (numbers_of seats) all w (omega arith))))
              (run_notes e.events (start_of size) x refl e.run));
          lawful = subst (λ c. IsHistory c x.notes) z.capacity
              (is_history x L.claims_tile_the_log L.notes_are_claims);
          whole = λ n m. (L.notes_are_claims.each n m).whole;
          placed = placed_once x L idle;
          below = λ n m. let c = (L.notes_are_claims.each n m).claim in
              let read : claim_in x.claims c.0 ≡ entry_claim n.writer.0 n.start.0 n.end.0 =
              get_or_default x.claims c.0 no_claim _ c.1 ∙ c.2 in
              let low = L.claims_tile_the_log.below_log c.0 c.1 in
              let ends = ap (λ (d : Claim). d.end) read in let log = e.log_is in omega arith;
          synced_below = let low = L.synced_below_the_log.below_log in let log = e.log_is in
              omega arith;
          found_log = known_of x
              (λ (s : PathSeat K). TrailTells size.capacity x (view_of s.member).trail)
              (HasComeFor end) (λ s T key F. let low = T.come key F in let log = e.log_is in
              omega (arith, low, log)) seats E.tell;
          few_segments = subst (λ k. ordinal_of k ≤ 2 * length x.notes - 1) (sym e.log_is)
              (few_segments x L idle);
          none_passed = λ key. first_part x.capacity L.sized.limits.greatest_capacity key x.notes
              (is_history x L.claims_tile_the_log L.notes_are_claims) (none_passed x L idle);
          synced_is = synced;
          unfiled = λ plain. let P = e.filing.plain plain in record {
            none_written = P.0;
            no_file = none_shown h.files
                (files_shown ∙ ap (λ (f : Filed). f.files) P.1);
            none_gone = none_dropped x L P.0;
            none_dropped = dropped ∙ P.2;
          };
          files_are = files_are;
          few_files = let few = few_files x L e.rows size e.filed e.dropped e.filing in
              let as_many : length h.files ≡ length e.filed.files =
              sym (length-map h.files put_table)
              ∙ ap (λ (l : List PutTable). length l) files_shown in omega (arith, few, as_many);
          true_files = true_as_shown x.notes h.files e.filed.files files_shown e.filing.merged;
          dropped_in = λ o gone. e.gone o (subst (λ (l : List ℕ). Contains l o) dropped gone);
          droppable = λ o gone. let in_run = e.gone o
              (subst (λ (l : List ℕ). Contains l o) dropped gone) in (
                L.dropped_was_droppable.droppable o in_run,
                L.dropped_was_droppable.below_synced o in_run,
              );
          archived_may = λ n there. e.filing.archived_may n
              (subst (λ (l : List ℕ). Contains l n) archived there);
          all_archived = λ gives n gone. subst (λ (l : List ℕ). Contains l n) (sym archived)
              (e.filing.all_archived (sym archives ∙ gives) n
              (subst (λ (l : List ℕ). Contains l n) dropped gone));
          none_archived = λ gives. archived ∙ e.filing.none_archived (sym archives ∙ gives);
          covered = known_of x
              (λ (s : PathSeat K). TrailTells size.capacity x (view_of s.member).trail)
              (λ (s : PathSeat K). CoversFlushed x.notes h.files (view_of s.member).trail)
              (λ s T. covers x h.files files_are L idle size.capacity (view_of s.member).trail T)
              seats E.tell;
          asked = λ f put. let g = map_from file_range x.files (held_range f)
              (subst (λ (l : List (ℕ × (ℕ × ℕ))). Contains l (held_range f)) files_are
              (map_old held_range h.files f put)) in
              subst (IsFlushedBy seats) (ap (λ (r : ℕ × (ℕ × ℕ)). r.0) g.2)
              (asked_by size x L e.events seats all E.own E.tell g.0 (came g.0 g.1));
          for_some = stand_for_some x h.files files_are L size.seats e.events came;
          finals = known_of x
              (λ (s : PathSeat K). TrailTells size.capacity x (view_of s.member).trail)
              (λ (s : PathSeat K). AreFinal x (view_of s.member).trail)
              (λ s T. T.final) seats E.tell;
          emptied = known_of x
              (λ (s : PathSeat K). TrailTells size.capacity x (view_of s.member).trail)
              (λ (s : PathSeat K). AreEmpty x (view_of s.member).trail)
              (λ s T. T.emptied) seats E.tell;
          given = known_of x
              (λ (s : PathSeat K). TrailTells size.capacity x (view_of s.member).trail)
              (λ (s : PathSeat K). AreGiven x h.files (view_of s.member).trail)
              (λ s T. are_given x h.files files_are size.capacity (view_of s.member).trail T)
              seats E.tell;
          stops = stops;
          found_synced = known_of x
              (λ (s : PathSeat K). part_of s.member ≡ seat_of x s.member.number) (IsSyncedFor h)
              (λ s is key found. let low = (L.seats_know s.member.number).words.synced key
              (ap (λ (p : Seat). p.found.synced) (sym is) ∙ found) in
              omega (arith, low, synced)) seats E.parts;
          found_stopped = known_of x
              (λ (s : PathSeat K). part_of s.member ≡ seat_of x s.member.number) (IsStoppedFor h)
              (λ s is n found some. let one = (L.seats_know s.member.number).words.stopped n
              (ap (λ (p : Seat). p.found.stopped) (sym is) ∙ found) some in
              stopped_by h.stopped h.faults n some
              (stops ∙ ap fault_count (sym one))) seats E.parts;
          all_synced = known_of x
              (λ (s : PathSeat K). TrailTells size.capacity x (view_of s.member).trail)
              (AreSyncedFor h) (λ s T key F. let low = (T.synced key F).lasting in
              omega (arith, low, synced)) seats E.tell;
          all_stopped = known_of x
              (λ (s : PathSeat K). TrailTells size.capacity x (view_of s.member).trail)
              (AreStoppedFor h) (λ s T n F some. stopped_by h.stopped h.faults n some
              (stops ∙ ap fault_count (sym (T.stopped n F some)))) seats E.tell;
          parted = known_of x
              (λ (s : PathSeat K). TrailTells size.capacity x (view_of s.member).trail)
              (ArePartedFor size.capacity x.notes) (λ s T key F n m.
              parts_at size.capacity x L z.capacity key (T.synced key F) n m) seats E.tell;
          sealed = of_both (λ (s : PathSeat K). map event_of (view_of s.member).trail
              ≡ steps_by s.member.number e.events)
              (λ (s : PathSeat K). TrailTells size.capacity x (view_of s.member).trail)
              (λ (s : PathSeat K). AreSealed size.capacity x.notes h.synced
              (view_of s.member).trail)
              (λ s own T. subst (λ k. AreSealed size.capacity x.notes k
              (view_of s.member).trail) (sym synced)
              (behind_sealed size.capacity s.member.number (start_of size) x e.events
              (view_of s.member).trail (opening_lawful size.tables size.seats size.capacity
              size.ordinals size.base e.fit) refl e.run z.capacity own T)) seats E.own E.tell;
          apart = of_both (λ (s : PathSeat K). map event_of (view_of s.member).trail
              ≡ steps_by s.member.number e.events)
              (λ (s : PathSeat K). TrailTells size.capacity x (view_of s.member).trail)
              (λ (s : PathSeat K). AreSealedApart size.capacity x.notes h.synced
              (view_of s.member).trail)
              (λ s own T. subst (λ k. AreSealedApart size.capacity x.notes k
              (view_of s.member).trail) (sym synced)
              (sealed_apart size.capacity s.member.number (start_of size) x e.events
              (view_of s.member).trail (opening_lawful size.tables size.seats size.capacity
              size.ordinals size.base e.fit) refl e.run z.capacity own T)) seats E.own E.tell;
          logged = subst (λ k. h.logged ≡ filter (is_at_most k) x.notes) (sym synced)
              (ap (λ (k : Lasting). k.logged) same);
          kept_to = e.kept_to;
          kept = subst (λ k. h.kept ≡ filter (is_between k e.kept_to) x.notes) (sym synced)
              (ap (λ (k : Lasting). k.kept) same);
          stopped = λ is. let t = told_count h.stopped h.faults x.stopped is
              (ap (λ (k : Lasting). k.stopped) same) in
              subst (λ (q : ℕ × ℕ). HasRisen q.0 q.1)
              (λ i. (sym (ap (λ (k : Lasting). k.at_open) same) i, t.1 i)) (e.risen t.0);
          sized = sized_as size (shown o size.at_open e.kept_to e.filed e.dropped x) h same z.base
              z.capacity z.ordinals refl;
        },
        told,
      )

  no_seat : (seats : List (PathSeat K)) → numbers_of seats ≡ [] → seats ≡ []
  no_seat [] e = refl
  no_seat (s ∷ seats) e = absurd (let q = ap (λ (l : List ℕ). length l) e in omega arith)

  pub unused_outcome : (o : Beside) (seats : List (PathSeat K)) (end : ℕ) (h : Holding)
      → IsFit size → numbers_of seats ≡ [] → EndsUnused o size end h → (bounds : TableBounds)
      → TellsBounds (start_of size) bounds
      → (a : IsOutcome size seats end h) × TellsBounds a.core bounds
  unused_outcome o seats end h fit none_there U bounds told = let same = U.1 in
      let synced : h.synced ≡ 0 = ap (λ (k : Lasting). k.synced) same in
      let no_files : h.files ≡ [] = none_shown h.files (ap (λ (k : Lasting). k.filed.files) same) in
      let dropped : h.dropped ≡ [] = ap (λ (k : Lasting). k.dropped) same in
      let archived : h.archived ≡ [] = ap (λ (k : Lasting). k.filed.archived) same in (
        record {
          fit = fit;
          core = start_of size;
          events = [];
          run = refl;
          built = tt;
          own = subst (λ (l : List (PathSeat K)). All (λ (s : PathSeat K).
              map event_of (view_of s.member).trail ≡ steps_by s.member.number []) l)
              (sym (no_seat seats none_there)) (All-nil (λ (s : PathSeat K).
              map event_of (view_of s.member).trail ≡ steps_by s.member.number []));
          end_is = U.0;
          of_writes = subst (λ (l : List (PathSeat K)). IsPermutation (all_writes l) [])
              (sym (no_seat seats none_there)) (IsPermutation-refl []);
          lawful = record {
            each = λ n m. absurd (let l = m.1 in omega arith);
            apart = λ i j d l m. absurd (omega arith);
          };
          whole = λ n m. absurd (let l = m.1 in omega arith);
          placed = λ n m. absurd (let l = m.1 in omega arith);
          below = λ n m. absurd (let l = m.1 in omega arith);
          synced_below = omega arith;
          found_log = subst (λ (l : List (PathSeat K)). All (HasComeFor end) l)
              (sym (no_seat seats none_there)) (All-nil (HasComeFor end));
          few_segments = let log = U.0 in omega (arith, log);
          none_passed = λ key n m. absurd (let l = m.1 in omega arith);
          synced_is = synced;
          unfiled = λ plain. record {
            none_written = refl;
            no_file = no_files;
            none_gone = refl;
            none_dropped = dropped;
          };
          files_are = ap (λ (l : List PutFile). map held_range l) no_files;
          few_files = let none = ap (λ (l : List PutFile). length l) no_files in
              omega (arith, none);
          true_files = λ f put. absurd (none_of no_files f put);
          dropped_in = λ o gone. absurd (none_of dropped o gone);
          droppable = λ o gone. absurd (none_of dropped o gone);
          archived_may = λ n there. absurd (none_of archived n there);
          all_archived = λ gives n gone. absurd (none_of dropped n gone);
          none_archived = λ gives. archived;
          covered = subst (λ (l : List (PathSeat K)). All (λ (s : PathSeat K).
              CoversFlushed [] h.files (view_of s.member).trail) l)
              (sym (no_seat seats none_there)) (All-nil (λ (s : PathSeat K).
              CoversFlushed [] h.files (view_of s.member).trail));
          asked = λ f put. absurd (none_of no_files f put);
          for_some = λ f put. absurd (none_of no_files f put);
          finals = subst (λ (l : List (PathSeat K)). All (λ (s : PathSeat K).
              AreFinal (start_of size) (view_of s.member).trail) l)
              (sym (no_seat seats none_there)) (All-nil (λ (s : PathSeat K).
              AreFinal (start_of size) (view_of s.member).trail));
          emptied = subst (λ (l : List (PathSeat K)). All (λ (s : PathSeat K).
              AreEmpty (start_of size) (view_of s.member).trail) l)
              (sym (no_seat seats none_there)) (All-nil (λ (s : PathSeat K).
              AreEmpty (start_of size) (view_of s.member).trail));
          given = subst (λ (l : List (PathSeat K)). All (λ (s : PathSeat K).
              AreGiven (start_of size) h.files (view_of s.member).trail) l)
              (sym (no_seat seats none_there)) (All-nil (λ (s : PathSeat K).
              AreGiven (start_of size) h.files (view_of s.member).trail));
          stops = ap (λ (k : Lasting). k.stopped) same;
          found_synced = subst (λ (l : List (PathSeat K)). All (IsSyncedFor h) l)
              (sym (no_seat seats none_there)) (All-nil (IsSyncedFor h));
          found_stopped = subst (λ (l : List (PathSeat K)). All (IsStoppedFor h) l)
              (sym (no_seat seats none_there)) (All-nil (IsStoppedFor h));
          all_synced = subst (λ (l : List (PathSeat K)). All (AreSyncedFor h) l)
              (sym (no_seat seats none_there)) (All-nil (AreSyncedFor h));
          all_stopped = subst (λ (l : List (PathSeat K)). All (AreStoppedFor h) l)
              (sym (no_seat seats none_there)) (All-nil (AreStoppedFor h));
          parted = subst (λ (l : List (PathSeat K)). All (ArePartedFor size.capacity []) l)
              (sym (no_seat seats none_there)) (All-nil (ArePartedFor size.capacity []));
          sealed = subst (λ (l : List (PathSeat K)). All (λ (s : PathSeat K).
              AreSealed size.capacity [] h.synced (view_of s.member).trail) l)
              (sym (no_seat seats none_there)) (All-nil (λ (s : PathSeat K).
              AreSealed size.capacity [] h.synced (view_of s.member).trail));
          apart = subst (λ (l : List (PathSeat K)). All (λ (s : PathSeat K).
              AreSealedApart size.capacity [] h.synced (view_of s.member).trail) l)
              (sym (no_seat seats none_there)) (All-nil (λ (s : PathSeat K).
              AreSealedApart size.capacity [] h.synced (view_of s.member).trail));
          logged = ap (λ (k : Lasting). k.logged) same;
          kept_to = 0;
          kept = ap (λ (k : Lasting). k.kept) same;
          stopped = λ is. absurd (none_told h.stopped h.faults is
              (ap (λ (k : Lasting). k.stopped) same));
          sized = sized_as size (none_lasting o size) h same refl refl refl refl;
        },
        told,
      )
