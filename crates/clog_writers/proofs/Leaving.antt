-- What a store leaves of a disk whose writers have logged all lines.
use Rattle.std.proofs.Common.{
  ◌≡◌,
  ℕ,
  ◌+◌,
  ◌<◌,
  Bool,
  false,
  List,
  [],
  ◌∷◌,
  Option,
  Some,
  get_or,
  length,
  map,
  sym,
  ◌∙◌,
  ap,
  subst,
  arith,
}
use Rattle.std.specs.Prelude.{Contains, is_some}
use Rattle.std.specs.List.{filter, range_with_len}
use Rattle.std.proofs.lemmas.Bool.{or_parts}
use base.Stored.{Gv}
use Rattle.clog_base.specs.declared.sizes.Sizes.{Sizes}
use Rattle.clog_disk.specs.declared.change.Change.{Change}
use Rattle.clog_disk.specs.Files.{Files}
use Rattle.clog_mutation.specs.declared.mutation.Mutation.{Mutation}
use Rattle.clog_words.specs.declared.request.ApplyOptions.{ApplyOptions}
use Rattle.clog_crash.specs.Grown.{appends_of}
use Rattle.sync_core.specs.declared.SyncCore.{SyncCore}
use Rattle.sync_core.specs.declared.SyncCore.TheVariants.{Batch}
use Rattle.path_core.specs.declared.note.EntryNote.{EntryNote}
use Rattle.path_core.specs.History.{IsHistory}
use Rattle.path_core.specs.Keeper.{Holding}
use Rattle.clog_segments.specs.NoteLog.{IsNoteLog}
use Rattle.clog_segments.specs.OnDisk.{file_on}
use Rattle.clog_segments.specs.StoreFolder.{Deeds, IsSound, StoreLog, log_of}
use Rattle.clog_segments.specs.StoreState.{
  HasOrdered,
  HoldsIt,
  StoreState,
  deeds_by,
  holding_of,
}
use Rattle.clog_applied.specs.Asked.{capacity_of, flushes}
use Rattle.clog_applied.specs.Closed.{IsClosedPath, IsStoreLeft}
use Rattle.clog_applied.specs.History.{IsLawful, LoggedLine, share_of, written_by}
use Rattle.clog_layout.specs.Ends.{synced_to}
use Rattle.clog_layout.specs.Logged.{AreNotesOf}
use Rattle.clog_layout.proofs.Lines.{are_notes, lawful, lines_for}
use Rattle.clog_closing.specs.Beside.{HasFinished}
use Rattle.clog_closing.specs.Drained.{HasBegun, HasNoDeeds}
use Rattle.clog_closing.specs.Gaps.{StandApart}
use Rattle.clog_closing.specs.Stores.{dropped_ids, files_by, ids_in}
use Rattle.clog_closing.proofs.Apart.{synced_apart}
use Rattle.clog_closing.proofs.Dropped.{StoresAreLeft, store_files, store_left, store_reaches}
use Rattle.clog_closing.proofs.Leaving.{all_brought, all_placed, in_order, tells_now}
use Rattle.clog_closing.proofs.NextNames.{next_names}
use Rattle.clog_closing.proofs.Tables.{note_of_line}
use Rattle.write_path.specs.declared.commit.Receipt.{Receipt}
use Rattle.write_path.specs.Closed.{PassesNoSegment}
use Rattle.write_path.proofs.NonePassed.{begins_first}
use Rattle.clog_writers.specs.Logged.{HaveFlushedShares, HoldShares, is_note_of}
use Rattle.clog_writers.specs.Placed.{AreAtTheirLines}
use Rattle.clog_shares.specs.Shares.{AreWritesOf}
use Rattle.clog_writers.specs.Written.{BeginsIn, AsksFor, TellsWrittenShares}
use Rattle.clog_writers.proofs.FlushedLines.{has_flushed}
use Rattle.clog_writers.proofs.Histories.{
  AreReceiptsFrom,
  has_receipt,
  of_line,
  receipts_from,
  shares_are,
}

-- ---- the path

-- the first line stands in the first segment
first_there : (base capacity : ℕ) (notes : List EntryNote) (history : List LoggedLine)
    → IsHistory capacity notes → PassesNoSegment notes → AreNotesOf base notes history
    → BeginsIn base history
first_there base capacity notes [] lawful passes are = tt
first_there base capacity [] (w ∷ ws) lawful passes are = absurd are
first_there base capacity (n ∷ ns) (w ∷ ws) lawful passes are =
    let first = begins_first capacity n ns lawful passes in
    let id = are.0.id in omega (arith, first, id)

module _ (sizes : Sizes) (base : ℕ) (mutations : List Mutation) (notes : List EntryNote)
    (h : HoldShares sizes.capacity sizes.writers mutations notes) where
  pub history : List LoggedLine
  history = lines_for notes base h.whole

  pub lines : AreNotesOf base notes history
  unfolding history
  lines = are_notes notes base h.whole

  pub its_writer : (w : LoggedLine) → Contains history w → w.writer < sizes.writers
  its_writer w among =
      let n = note_of_line base notes history lines w among in
      let low = h.known n.note n.listed in
      let by = n.is.writer in
      omega (arith, low, by)

  pub shares : (writers writer : ℕ) → writers ≡ sizes.writers → writer < writers
      → written_by writer history ≡ share_of writers writer mutations
  shares writers writer same low =
      shares_are base writer (share_of writers writer mutations) notes history
      (subst (λ (k : ℕ). AreWritesOf writer (share_of k writer mutations)
      (filter (is_note_of writer) notes)) (sym same)
      (h.shares writer (omega (arith, low, same)))) lines

  pub its_lawful : (capacity : ℕ) → capacity ≡ sizes.capacity → IsLawful capacity history
  its_lawful capacity same = subst (λ (k : ℕ). IsLawful k history) (sym same)
      (lawful base sizes.capacity sizes.within.greatest_capacity notes history h.lawful lines)

  pub receipts_are : (receipts : List Receipt) → AreAtTheirLines base notes receipts
      → length receipts ≡ length mutations
      → AreReceiptsFrom base sizes.capacity sizes.within.greatest_capacity notes h.lawful history
      lines 1 receipts
  receipts_are receipts placed long =
      let few = sizes.within.greatest_capacity in
      let some = sizes.within.some_writer in
      receipts_from base sizes.capacity few notes h.lawful history lines 1 receipts
      (λ i d inside.
      let r = has_receipt sizes.capacity sizes.writers (omega (arith, some)) mutations notes h base
      receipts placed long i inside in
      of_line base sizes.capacity few notes h.lawful history lines (1 + i) (get_or receipts i d)
      r.note r.among (r.line ∙ omega arith) (r.is d))

-- ---- the store

module _ {D : Type 0} (files : D → Option Files) (changes : D → Option (List Change))
    (moment faults : D → ℕ) (code : D → Gv)
    (tells : (d : D) → is_some (changes d) ≡ is_some (files d)) (b : StoreState D)
    (runs : b.notes.log.is_stopped ≡ false) (notes : IsNoteLog b.notes)
    (sound : IsSound b.notes.log) (folder : HoldsIt files b) (ordered : HasOrdered changes b)
    (law : StoresAreLeft) (sizes : Sizes) (mutations : List Mutation)
    (h : HoldShares sizes.capacity sizes.writers mutations b.notes.logged)
    (passes : PassesNoSegment b.notes.logged) (none_kept : b.notes.kept ≡ []) where
  abbrev Held : Holding
  Held = holding_of files changes moment faults code b

  abbrev first_id : ℕ
  first_id = b.notes.base

  abbrev its : List LoggedLine
  its = history sizes first_id mutations b.notes.logged h

  are : AreNotesOf first_id b.notes.logged its
  are = lines sizes first_id mutations b.notes.logged h

  abbrev log : StoreLog
  log = log_of b.notes

  abbrev deeds : Deeds
  deeds = deeds_by b

  -- What it has done beside its log, at the end of a run that was asked for so.
  pub record IsDone (flush : Option ℕ) (drain : Bool) : Type 0 where
    pub finished : HasFinished drain Held
    pub flushed : HaveFlushedShares flush sizes.writers Held
    pub none : is_some flush ≡ false → drain ≡ false → HasNoDeeds Held
    pub begun : is_some flush ≡ false → HasBegun Held (synced_to b.notes.logged)

  module _ (options : ApplyOptions) (mode : SyncCore) (flush : Option ℕ) (drain : Bool)
      (asked : AsksFor options sizes mode flush b.archives drain)
      (done : IsDone flush drain) where
    -- where nothing is flushed it has done nothing
    no_deeds : flushes options ≡ false → HasNoDeeds Held
    no_deeds flushless =
        let parts = or_parts (is_some options.flush_at) options.drain flushless in
        done.none (ap (λ (o : Option ℕ). is_some o) (sym asked.flush_is) ∙ parts.0)
        (sym asked.drain_is ∙ parts.1)

    lawful_lines : IsLawful (capacity_of options) its
    lawful_lines = its_lawful sizes first_id mutations b.notes.logged h (capacity_of options)
        asked.capacity

    path : IsClosedPath options mutations first_id its (files_by log deeds)
    path =
        let some = sizes.within.some_writer in
        let count = asked.writers in
        let put = store_files files changes moment faults code b runs notes sound none_kept ordered
        sizes its h.lawful are drain done.finished options asked.drain_is no_deeds in
        record {
          lawful = lawful_lines;
          from_base = λ w among.
              let n = note_of_line first_id b.notes.logged its are w among in
              omega (arith, n.is.id);
          writers = omega (arith, some, count);
          known = λ w among.
              let low = its_writer sizes first_id mutations b.notes.logged h w among in
              omega (arith, low, count);
          shares = λ writer low.
              shares sizes first_id mutations b.notes.logged h options.writers writer count low;
          follow = put.follow;
          are_true = put.are_true;
          for_some = put.for_some;
          drained = put.drained;
          none = put.none;
          flushed = λ most is table writer low.
              has_flushed Held sizes.capacity sizes.within.greatest_capacity h.lawful its are most
              sizes.writers (subst (λ (o : Option ℕ). HaveFlushedShares o sizes.writers Held)
              (sym asked.flush_is ∙ is) done.flushed) table writer (omega (arith, low, count));
        }

    unflushed : flushes options ≡ false → (dropped_ids log deeds ≡ []) × (files_by log deeds ≡ [])
    unflushed flushless =
        let none = no_deeds flushless in (
          ap (map (λ (o : ℕ). first_id + o)) none.none_dropped,
          ap (map (file_on first_id)) none.no_file,
        )

    pub written : (mode ≡ Batch → StandApart sizes.capacity b.notes.logged)
        → (receipts : List Receipt) → AreAtTheirLines first_id b.notes.logged receipts
        → length receipts ≡ length mutations → (opened : Files) (made : List Change)
        → files b.first ≡ Some opened → changes b.first ≡ Some made
        → TellsWrittenShares options first_id opened made (files b.notes.log.disk)
        (changes b.notes.log.disk) mutations receipts
    written apart receipts placed long opened made is made_is =
        let growth = ordered.growth in
        let grows = all_brought changes b.first b.notes.log growth runs in
        let now = tells_now files changes tells b.first b.notes.log growth made made_is in
        let told = receipts_are sizes first_id mutations b.notes.logged h receipts placed long in
        record {
          after = now.after;
          later = growth.added;
          files_are = now.files_are;
          changes_are = now.changes_are;
          written = record {
            ids = ids_in log;
            dropped = dropped_ids log deeds;
            history = its;
            files = files_by log deeds;
            logged = told.logged;
            path = path;
            store = subst (λ (archive : Bool). IsStoreLeft archive opened now.after growth.added
                (ids_in log) (dropped_ids log deeds) its (files_by log deeds))
                (sym asked.archive_is)
                (store_left files changes moment faults code b runs notes sound none_kept ordered
                sizes its h.lawful are drain done.finished law folder opened now.after is
                now.files_are);
            unflushed = unflushed;
            begins = first_there first_id sizes.capacity b.notes.logged its h.lawful passes are;
            reach = store_reaches files changes moment faults code b runs notes sound none_kept
                ordered sizes its h.lawful are drain done.finished options lawful_lines passes
                (λ drained none.
                done.begun (ap (λ (o : Option ℕ). is_some o) (sym asked.flush_is ∙ none)));
            names = next_names opened now.after log deeds (folder opened now.after is now.files_are)
                sound.below sound.stored.fits;
            apart = λ batch.
                synced_apart growth.added first_id b.notes.log.past b.notes.log.id
                b.notes.log.sections b.notes.logged its grows
                (in_order b.notes.log (appends_of growth.added) grows sound)
                (all_placed b.notes notes none_kept) are sizes.capacity
                sizes.within.greatest_capacity h.lawful (apart (sym asked.sync ∙ batch));
            by_line = record {
              numbers = told.numbers ∙ ap (range_with_len 1) long;
              each = told.each;
            };
            receipts_are = told.receipts_are;
          };
        }
