-- A store whose keeper has finished, drained or not: what it leaves of its disk, and its files.
use Rattle.std.proofs.Common.{
  ◌≡◌,
  ℕ,
  ◌<◌,
  Bool,
  false,
  true,
  List,
  [],
  Option,
  Some,
  None,
  subst,
  arith,
}
use Rattle.std.specs.Prelude.{Contains}
use Rattle.std.proofs.lemmas.List.Elements.{Contains-append_left}
use base.Stored.{Gv}
use Rattle.clog_spec.specs.Sizes.{most_segments}
use Rattle.clog_base.specs.declared.sizes.Sizes.{Sizes}
use Rattle.clog_base.proofs.Members.{nothing_there}
use Rattle.clog_disk.specs.declared.change.Change.{Change}
use Rattle.clog_disk.specs.Files.{Files}
use Rattle.clog_words.specs.declared.request.ApplyOptions.{ApplyOptions}
use Rattle.clog_crash.specs.Grown.{appends_of}
use Rattle.path_core.specs.declared.note.EntryNote.{EntryNote}
use Rattle.path_core.specs.History.{IsHistory}
use Rattle.path_core.specs.Keeper.{Holding, MayDrop}
use Rattle.path_core.specs.Keys.{ordinal_of}
use Rattle.clog_segments.specs.Grows.{IsGrown}
use Rattle.clog_segments.specs.NoteLog.{IsNoteLog}
use Rattle.clog_segments.specs.StoreFolder.{Deeds, HoldsStore, IsSound, StoreLog, log_of}
use Rattle.clog_segments.specs.StoreState.{
  HasOrdered,
  HoldsIt,
  StoreState,
  deeds_by,
  holding_of,
}
use Rattle.clog_applied.specs.Asked.{capacity_of, flushes}
use Rattle.clog_applied.specs.Closed.{IsStoreLeft}
use Rattle.clog_applied.specs.History.{IsLawful, LoggedLine}
use Rattle.clog_applied.specs.Onward.{ReachesNoFurther}
use Rattle.clog_layout.specs.Ends.{synced_to}
use Rattle.clog_layout.specs.Logged.{AreNotesOf}
use Rattle.clog_closing.specs.Beside.{HasFinished}
use Rattle.clog_closing.specs.Drained.{HasBegun, HasNoDeeds}
use Rattle.clog_closing.specs.Logs.{AreStoredInOrder}
use Rattle.clog_closing.specs.Stores.{
  AreWholeDeeds,
  HasEnded,
  MayGo,
  dropped_ids,
  files_by,
  ids_in,
  segments_in,
}
use Rattle.clog_closing.proofs.Ends.{ends_with, ids_rise}
use Rattle.clog_closing.proofs.Filing.{AreFilesFor, files_for}
use Rattle.clog_closing.proofs.Leaving.{all_brought, all_placed, in_order}
use Rattle.clog_closing.proofs.Logs.{is_appended}
use Rattle.clog_closing.proofs.Reaches.{PassesNone, reaches}

-- what a store leaves that has done all with its log
abbrev pub StoresAreLeft : Type 0
StoresAreLeft =
    (sizes : Sizes) (opened after : Files) (later : List Change) (log : StoreLog) (deeds : Deeds)
    (history : List LoggedLine) → HasEnded sizes opened after later log deeds history
    → IsStoreLeft deeds.archives opened after later (ids_in log) (dropped_ids log deeds) history
    (files_by log deeds)

module _ {D : Type 0} (files_at : D → Option Files) (changes : D → Option (List Change))
    (moment faults : D → ℕ) (code : D → Gv) (b : StoreState D)
    (runs : b.notes.log.is_stopped ≡ false) (noted : IsNoteLog b.notes)
    (sound : IsSound b.notes.log) (none_kept : b.notes.kept ≡ []) (ordered : HasOrdered changes b)
    (sizes : Sizes) (history : List LoggedLine) (in_log : IsHistory sizes.capacity b.notes.logged)
    (are : AreNotesOf b.notes.base b.notes.logged history) (drain : Bool)
    (done : HasFinished drain (holding_of files_at changes moment faults code b)) where
  abbrev h : Holding
  h = holding_of files_at changes moment faults code b

  abbrev log : StoreLog
  log = log_of b.notes

  abbrev deeds : Deeds
  deeds = deeds_by b

  abbrev later : List Change
  later = ordered.growth.added

  grows : IsGrown (appends_of later) b.notes.log.past b.notes.log.id b.notes.log.sections
  grows = all_brought changes b.first b.notes.log ordered.growth runs

  stored : AreStoredInOrder (segments_in log)
  stored = in_order b.notes.log (appends_of later) grows sound

  -- ---- what it leaves

  may_drop : (o : ℕ) → MayGo log deeds o → MayDrop h o
  may_drop o may = record {
    note = may.note;
    among = may.among;
    here = may.here;
    none_kept = λ n kept is.
        nothing_there n (subst (λ (l : List EntryNote). Contains l n) none_kept kept);
    filed = may.filed;
  }

  -- a segment of an entry is one that there may be
  dropped : (o : ℕ) → MayDrop h o → Contains b.dropped o
  dropped o may = done.gone o (there (noted.good may.note
      (Contains-append_left b.notes.logged b.notes.kept may.note may.among)).segment_is) may
    where
      there : ordinal_of may.note.start.0 < b.notes.sizes.ordinals → o < most_segments
      there low =
          let few = b.notes.sizes.within.few_segments in
          let here = may.here in omega (arith, low, few, here)

  whole_deeds : AreWholeDeeds log deeds
  whole_deeds = record {
    in_sequence = done.good.in_sequence;
    some = λ put listed.
        let holds = done.good.for_some put listed in
        let above = holds.above in
        let up_to = holds.up_to in omega (arith, above, up_to);
    archived = λ o listed. dropped o (done.good.archivable o listed);
    exactly = λ o may. dropped o (may_drop o may);
  }

  ended : (opened after : Files) → HoldsStore opened log deeds after
      → HasEnded sizes opened after later log deeds history
  ended opened after holds = record {
    folder = holds;
    goes = record {
      grown = grows;
      ordered = ordered.ordered;
      stored = stored;
      places = all_placed b.notes noted none_kept;
      in_log = in_log;
      notes = are;
    };
    whole = whole_deeds;
  }

  pub store_left : StoresAreLeft → HoldsIt files_at b → (opened after : Files)
      → files_at b.first ≡ Some opened → files_at b.notes.log.disk ≡ Some after
      → IsStoreLeft b.archives opened after later (ids_in log) (dropped_ids log deeds) history
      (files_by log deeds)
  store_left law folder opened after is now =
      law sizes opened after later log deeds history
      (ended opened after (folder opened after is now))

  -- ---- its files

  pub store_files : (options : ApplyOptions) → options.drain ≡ drain
      → (flushes options ≡ false → HasNoDeeds h)
      → AreFilesFor b.notes.base history options (files_by log deeds)
  store_files =
      files_for h sizes history in_log are
      (λ n among. (noted.good n (Contains-append_left b.notes.logged b.notes.kept n among)).whole)
      drain done

  -- ---- how far it reaches

  pub store_reaches : (options : ApplyOptions) → IsLawful (capacity_of options) history
      → PassesNone b.notes.logged
      → (options.drain ≡ true → options.flush_at ≡ None → HasBegun h (synced_to b.notes.logged))
      → ReachesNoFurther options b.notes.base later (ids_in log) history (files_by log deeds)
  store_reaches options lawful passes wide =
      let past = b.notes.log.past in
      let id = b.notes.log.id in
      let sections = b.notes.log.sections in
      let places = all_placed b.notes noted none_kept in
      reaches sizes h passes in_log history are done.good noted.ended options lawful later
      (ids_in log)
      (ids_rise later b.notes.base past id sections b.notes.logged history grows stored places are)
      (ends_with later b.notes.base past id sections b.notes.logged history grows stored places are)
      (is_appended later b.notes.base past id sections b.notes.logged history grows stored places
      are).no_other wide
