-- A crew runs: its workers are lent to functions, and what becomes of their shares.
use Rattle.std.proofs.Common.{◌≡◌, ℕ, suc, ◌+◌, ◌-◌, ◌*◌, ◌^◌, ◌<◌, ◌≤◌, Bool, false, List, [], ◌∷◌}
use Rattle.std.proofs.Common.{◌++◌, get_or, length, take, Option, Some, None, refl, sym, ap, ◌∙◌}
use Rattle.std.proofs.Common.{subst, arith}
use Rattle.std.specs.Prelude.{Contains, is_some}
use Rattle.std.specs.List.{range_with_len}
use Rattle.std.specs.List.Sorted.{IsPermutation}
use Rattle.std.proofs.lemmas.List.Elements.{All-contains}
use Rattle.std.proofs.lemmas.List.Sorted.{IsPermutation-refl}
use Rattle.std.proofs.lemmas.Option.{none-some, same_Some}
use Rattle.atomic_table.specs.Seated.{TableId}
use Rattle.clog_base.specs.declared.sizes.Sizes.{Sizes}
use Rattle.clog_mutation.specs.declared.mutation.Mutation.{Mutation}
use Rattle.path_core.specs.declared.note.EntryNote.{EntryNote}
use Rattle.path_core.specs.History.{IsHistory}
use Rattle.path_core.specs.Keeper.{Holding, IsFresh, PutFile}
use Rattle.path_rule.specs.declared.lasting.Lasting.{Lasting}
use Rattle.path_rule.specs.declared.view.PathSize.{PathSize}
use Rattle.path_rule.specs.Limits.{most_memtables}
use Rattle.path_table.specs.declared.trying.PathSeat.{PathSeat}
use Rattle.clog_closing.specs.Beside.{HasGoodDeeds}
use Rattle.clog_closing.specs.Drained.{HasNoDeeds}
use Rattle.clog_closing.proofs.Good.{good_of_none}
use Rattle.write_path.specs.Closed.{AreStoppedFor, IsOutcome, StaysBeside}
use Rattle.write_path.specs.Opened.{ShowsAsBefore, numbers_of, size_of, sized_for}
use Rattle.write_path.proofs.BesideStays.{stays_beside}
use Rattle.write_path.proofs.NonePassed.{logged_passes_none}
use Rattle.write_path.proofs.Spending.{segments_spent}
use Rattle.clog_shares.specs.declared.fault.WriteFault.{WriteFault}
use Rattle.clog_shares.specs.declared.fault.WriteFault.TheVariants.{OutOfMemory, Spent, Stopped}
use Rattle.clog_shares.specs.declared.worker.Worker.{Worker}
use Rattle.clog_shares.specs.Crews.{AreDealt, AreReady, HaveEnded, HaveLogged, IsSizedAs}
use Rattle.clog_shares.proofs.WrittenBack.{written_back}
use Rattle.clog_writers.specs.Logged.{EndsShares, GoesOnBeside, HaveFlushedShares, HoldFirsts}
use Rattle.clog_writers.specs.Logged.{HoldShares}
use Rattle.clog_shares.specs.Sealing.{WaitShares}
use Rattle.clog_writers.proofs.Ending.{hold_shares, none_kept}
use Rattle.clog_writers.proofs.FiledWell.{has_good}
use Rattle.clog_writers.proofs.FirstLogged.{hold_firsts, in_order, none_held, none_in_log}
use Rattle.clog_writers.proofs.FirstLogged.{none_written}
use Rattle.clog_writers.proofs.FlushedShares.{have_flushed}
use Rattle.clog_writers.proofs.Totals.{few_writes}

-- a path that was opened with sizes has these
pub sized_as : (size : PathSize) (sizes : Sizes) (base at_open : ℕ) (files : Bool)
    → size ≡ sized_for files sizes base at_open → IsSizedAs size sizes
sized_as size sizes base at_open files is = record {
  tables = ap (λ (z : PathSize). z.tables) (sym is);
  writers = ap (λ (z : PathSize). z.seats) (sym is);
  capacity = ap (λ (z : PathSize). z.capacity) (sym is);
}

module _ {K : Type 0} (id : TableId) (size : PathSize) (sizes : Sizes)
    (sized : IsSizedAs size sizes) (flush : Option ℕ) (ms : List Mutation) where
  -- workers that were lent, and are lent again
  pub lent_ready : (n : ℕ) (ws now slice rest : List (Worker K)) → AreDealt sizes flush ms ws
      → n ≡ length ws → slice ≡ take n (now ++ rest) → AreReady id size sizes flush ms now
      → AreReady id size sizes flush ms slice
  lent_ready n ws now slice rest dealt long is ready =
      let a = dealt.count in
      let b = ready.count in
      let same = sized.writers in
      subst (AreReady id size sizes flush ms)
      (sym (is ∙ written_back n now rest (omega (arith, long, a, b, same)))) ready

  pub back_logged : (n : ℕ) (ws now rest : List (Worker K)) → AreDealt sizes flush ms ws
      → n ≡ length ws → HaveLogged id size flush ms now
      → HaveLogged id size flush ms (take n (now ++ rest))
  back_logged n ws now rest dealt long logged =
      let a = dealt.count in
      let b = logged.count in
      let same = sized.writers in
      subst (HaveLogged id size flush ms)
      (sym (written_back n now rest (omega (arith, long, a, b, same)))) logged

  pub back_waited : (n : ℕ) (ws now rest : List (Worker K)) → AreDealt sizes flush ms ws
      → n ≡ length ws → HaveLogged id size flush ms now → WaitShares now
      → WaitShares (take n (now ++ rest))
  back_waited n ws now rest dealt long logged waits =
      let a = dealt.count in
      let b = logged.count in
      let same = sized.writers in
      subst (λ (l : List (Worker K)). WaitShares l)
      (sym (written_back n now rest (omega (arith, long, a, b, same)))) waits

-- ---- seats

module _ {K : Type 0} where
  numbers_from : (k : ℕ) (xs : List (PathSeat K))
      → ((i : ℕ) (d : PathSeat K) → i < length xs → (get_or xs i d).member.number ≡ k + i)
      → numbers_of xs ≡ range_with_len k (length xs)
  numbers_from k [] each = refl
  numbers_from k (x ∷ xs) each =
      let first : x.member.number ≡ k =
      (let one = each 0 x (omega arith) in omega (arith, one)) in
      let rest = numbers_from (k + 1) xs (λ i d inside.
      let one = each (suc i) d (omega (arith, inside)) in omega (arith, one)) in
      λ i. first i ∷ rest i

  module _ (id : TableId) (size : PathSize) (flush : Option ℕ) (ms : List Mutation)
      (fault : Option WriteFault) (seats : List (PathSeat K))
      (ended : HaveEnded id size flush ms fault seats) where
    -- they are all seats of the path
    pub all_numbers : IsPermutation (range_with_len 0 size.seats) (numbers_of seats)
    all_numbers =
        let numbers : numbers_of seats ≡ range_with_len 0 size.seats =
        numbers_from 0 seats (λ i d inside.
        let is = (ended.each i d inside).number_is in omega (arith, is))
        ∙ ap (range_with_len 0) ended.count in
        subst (λ (l : _). IsPermutation (range_with_len 0 size.seats) l) (sym numbers)
        (IsPermutation-refl (range_with_len 0 size.seats))

-- ---- what becomes of shares

not_stopped : (at_open n : ℕ) → Some OutOfMemory ≡ Some (Stopped at_open n) → ⊥
not_stopped at_open n is =
    absurd (let no : OutOfMemory ≡ Stopped at_open n =
    same_Some OutOfMemory (Stopped at_open n) is in cc)

module _ (sizes : Sizes) (base : ℕ) (before now : Holding) (fresh : IsFresh base sizes before)
    (size : PathSize) (beside : StaysBeside size before now) where
  -- a keeper of a path that was opened for no table files
  alone_by : size.files ≡ false → now.dropped ≡ [] → HasNoDeeds now
  alone_by plain none = record {
    no_file = beside.no_file plain fresh.no_file;
    none_dropped = none;
    none_archived = beside.none_archived plain fresh.none_archived;
  }

  -- and of any
  beside_by : (flush : Option ℕ) → now.base ≡ before.base → (flush ≡ None → HasNoDeeds now)
      → HasGoodDeeds now → length now.files ≤ most_memtables → GoesOnBeside flush before now
  beside_by flush same alone good few = record {
    disk_is = beside.disk_is;
    base_is = same;
    archives_are = beside.archives_are;
    tables_are = beside.tables_are;
    alone = alone;
    good = good;
    few = few;
  }

module _ {K : Type 0} (sizes : Sizes) (flush : Option ℕ) (base : ℕ) (before now : Holding)
    (fresh : IsFresh base sizes before) where
  -- where memory was refused before
  refused : (workers : List (Worker K)) → GoesOnBeside flush before now
      → now.logged ++ now.kept ≡ []
      → EndsShares sizes flush base before now workers (Some OutOfMemory)
  refused workers beside empty = record {
    beside = beside;
    logs = λ ms dealt none. absurd (none-some OutOfMemory (sym none));
    flushed = λ ms dealt none. absurd (none-some OutOfMemory (sym none));
    firsts = λ ms dealt. none_held sizes.writers ms (now.logged ++ now.kept) empty;
    in_log = λ ms dealt. none_in_log sizes.capacity (now.logged ++ now.kept) empty;
    stops = λ at_open n is. absurd (not_stopped at_open n is);
    spent = λ ms dealt no. absurd (let q : OutOfMemory ≡ Spent =
        same_Some OutOfMemory Spent no in cc);
  }

  pub unopened : (workers : List (Worker K)) → ShowsAsBefore before now
      → EndsShares sizes flush base before now workers (Some OutOfMemory)
  unopened workers same =
      let beside = stays_beside (size_of sizes base 0) before now
      (ap (λ (l : Lasting). l.beside) same) (ap (λ (l : Lasting). l.filed) same) in
      let alone = alone_by sizes base before now fresh (size_of sizes base 0) beside refl
      (ap (λ (l : Lasting). l.dropped) same ∙ fresh.none_dropped) in
      refused workers
      (beside_by sizes base before now fresh (size_of sizes base 0) beside flush
      (ap (λ (l : Lasting). l.base) same) (λ is. alone) (good_of_none now alone)
      (let none = ap (λ (l : List PutFile). length l) alone.no_file in omega (arith, none)))
      (ap (λ (l : Lasting). l.logged ++ l.kept) same
      ∙ ap (λ (l : List EntryNote). l ++ before.kept) fresh.nothing_logged ∙ fresh.nothing_kept)

  module _ (size : PathSize) (of_base : size.base ≡ base) (files : size.files ≡ is_some flush)
      (seats : List (PathSeat K)) (end : ℕ) (o : IsOutcome size seats end now)
      (beside : StaysBeside size before now) where
    -- where writers do not flush it was opened for no table files
    goes_on : GoesOnBeside flush before now
    goes_on =
        beside_by sizes base before now fresh size beside flush
        (o.sized.base_is ∙ of_base ∙ sym fresh.base_is)
        (λ none.
        let plain = files ∙ ap (λ (f : Option ℕ). is_some f) none in
        alone_by sizes base before now fresh size beside plain (o.unfiled plain).none_dropped)
        (has_good size seats end now o) o.few_files

    pub unseated : seats ≡ [] → (workers : List (Worker K))
        → EndsShares sizes flush base before now workers (Some OutOfMemory)
    unseated none workers = refused workers goes_on (none_written size seats end now o none)

    module _ (id : TableId) (at_open : ℕ)
        (is : size ≡ sized_for (is_some flush) sizes base at_open) where
      pub ran : (workers : List (Worker K)) (fault : Option WriteFault) (some : List Mutation)
          → AreDealt sizes flush some workers
          → ((ms : List Mutation) → AreDealt sizes flush ms workers
          → HaveEnded id size flush ms fault seats)
          → EndsShares sizes flush base before now workers fault
      ran workers fault some dealt ended = record {
        beside = goes_on;
        logs = λ ms given none.
            let all = subst (λ (f : Option WriteFault). HaveEnded id size flush ms f seats) none
            (ended ms given) in
            record {
              base_is = o.sized.base_is ∙ of_base;
              notes = subst (λ (z : PathSize). HoldShares z.capacity z.seats ms now.logged) is
                  (hold_shares id size flush ms seats all end now o);
              none_passed = logged_passes_none size seats end now o;
              none_kept = none_kept id size flush ms seats all end now o;
            };
        flushed = λ ms given none.
            subst (λ (z : PathSize). HaveFlushedShares flush z.seats now) is
            (have_flushed id size flush ms seats
            (subst (λ (f : Option WriteFault). HaveEnded id size flush ms f seats) none
            (ended ms given)) end now o);
        firsts = λ ms given.
            subst (λ (z : PathSize). HoldFirsts z.seats ms (now.logged ++ now.kept)) is
            (hold_firsts id size flush ms fault seats (ended ms given) end now o);
        in_log = λ ms given.
            subst (λ (z : PathSize). IsHistory z.capacity (now.logged ++ now.kept)) is
            (in_order id size flush ms fault seats (ended ms given) end now o);
        stops = λ a n stopped.
            let one = (ended some dealt).stops a n stopped in
            let so = All-contains (AreStoppedFor now) seats one.0 o.all_stopped one.1 n one.2.1
            one.2.2 in (one.2.0 ∙ sym o.sized.at_open_is, sym so.1, so.0);
        spent = λ ms given no_room.
            let e = ended ms given in
            let k = e.spent no_room in
            let most = segments_spent size seats end now o k.0 k.1 k.2.0 k.2.1 k.2.2 k.2.3 in
            let few = few_writes id size flush ms fault seats e in
            let same = ap (λ (z : PathSize). z.ordinals) is in omega (arith, most, few, same);
      }
