-- What a sync is lent is the run of notes that it takes, and what it makes of them.
use Rattle.std.proofs.Common.{ℕ, inl, inr, List, drop, sym, subst}
use Rattle.std.specs.List.{AllPairs, Contains}
use Rattle.std.specs.List.Sorted.{IsPermutation}
use Rattle.path_core.specs.declared.note.EntryNote.{EntryNote}
use Rattle.path_core.specs.Keeper.{Holding, IsParted, MaySync, MayWrite}
use Rattle.clog_segments.specs.NoteLog.{
  BeginsFrom,
  HasRefused,
  HasSynced,
  IsGood,
  MayLog,
  NoteState,
}
use Rattle.clog_store.specs.NoteSteps.{Logs, LogsNot, MayRun}
use Rattle.clog_store.proofs.NoteLent.{ascending}
use Rattle.clog_store.proofs.NoteParts.{Below, one_run}

module _ {D : Type 0} (before : NoteState D) (upto : ℕ) (pending run left : List EntryNote)
    (parted : IsParted upto pending run left) where
  -- the run is what a keeper is asked to write
  pub run_writes : (h : Holding) → MaySync h upto pending → MayWrite h upto run
  run_writes h m =
      let good : (n : EntryNote) → Contains m.run n → IsGood h.sizes n = λ n among.
      let w = m.may.each n among in
      record { whole = w.whole; in_segment = w.in_segment; segment_is = w.segment_is } in
      let order : AllPairs Below m.run =
      ascending h.sizes h.synced upto m.run good m.may.tiled in
      let same = one_run upto pending run left m.run m.left parted m.parted order in
      subst (MayWrite h upto) (sym same) m.may

  pub may_run : MayLog before upto pending
      → BeginsFrom before.base before.log.id (drop before.written run) → MayRun before upto run
  may_run may from = record {
    holding = may.holding;
    has = may.has;
    may = run_writes may.holding may.may;
    from = from;
  }

  pub synced : (now : NoteState D) → Logs before now upto run
      → HasSynced before now upto pending left
  synced now logs = record { run = run; parted = parted; log_is = logs }

  pub refused : (now : NoteState D) (all : List EntryNote) → IsPermutation pending all
      → LogsNot before now run → HasRefused before now upto pending all
  refused now all same not = record {
    pends = same;
    keeps = elim not.keeps [
      | inl still ↦ inl still
      | inr is ↦ inr (
        left,
        subst (λ (l : List EntryNote). IsParted upto pending l left) (sym is) parted,
      )
    ];
    log_is = not.log_is;
  }
