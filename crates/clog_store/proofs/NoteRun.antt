-- A log of notes after its run was written: the run is logged, or kept; and it stands no further
-- than what comes next.
use Rattle.std.proofs.Common.{◌≡◌, ℕ, ◌≤◌, ◌++◌, ◌∙◌, List, [], false, length, ap, sym, subst}
use Rattle.path_core.specs.declared.note.EntryNote.{EntryNote}
use Rattle.clog_segments.specs.Life.{State}
use Rattle.clog_segments.specs.NoteLog.{IsFrom, IsNoteLog, NoteState}
use Rattle.clog_store.specs.NoteSteps.{MayRun, ReadyAt, StaysHeld, StaysReady, StaysStanding}
use Rattle.clog_store.specs.StoreTakes.{TakesMore}
use Rattle.clog_store.proofs.NoteLogged.{logged, ready_of, unlogged}
use Rattle.clog_store.proofs.NoteTakes.{takes_logged, takes_unlogged}

-- the log as it stands inside and as it was lent the run, and the run as it is written
module _ {D : Type 0} {s before : NoteState D} (view : s ≡ before) (is : IsNoteLog s)
    (runs : before.log.is_stopped ≡ false) {upto : ℕ} {notes run : List EntryNote}
    (shown : notes ≡ run) (lent : MayRun before upto run) where
  may : MayRun s upto notes
  may =
      subst (MayRun s upto) (sym shown)
      (subst (λ (x : NoteState D). MayRun x upto run) (sym view) lent)

  pub run_ready : ReadyAt s.sizes s.synced s.logged upto s.base s.log notes s.written
  run_ready =
      ready_of s upto notes may is
      (subst (λ (x : NoteState D). x.log.is_stopped ≡ false) (sym view) runs)

  taking : (dropped : List ℕ) → TakesMore before dropped → TakesMore s dropped
  taking dropped takes = subst (λ (x : NoteState D). TakesMore x dropped) (sym view) takes

  -- it is refused, and kept
  module _ {now : State D} {w : ℕ} {have keep : List EntryNote} (few : w ≤ length notes)
      (held : StaysHeld s.base notes s.log s.written now w) (had : have ≡ s.logged)
      (kept : keep ≡ run) where
    abbrev with_kept : NoteState D
    with_kept = record s { log = now; logged = have; kept = keep; written = w }

    as_kept : record s { log = now; kept = notes; written = w } ≡ with_kept
    as_kept = λ j. record s {
      log = now;
      logged = sym had j;
      kept = (shown ∙ sym kept) j;
      written = w;
    }

    pub run_kept : IsFrom s.base now → StaysStanding s.base notes s.log s.written now w
        → IsNoteLog with_kept
    run_kept from stands =
        subst IsNoteLog as_kept
        (unlogged s upto notes may is now w from few
        (stands s.sizes s.synced s.logged upto run_ready)
        (held s.sizes s.synced s.logged upto run_ready))

    pub takes_kept_run : (s.written ≡ length notes → now.id ≡ s.log.id) → (dropped : List ℕ)
        → TakesMore before dropped → now.is_stopped ≡ false → TakesMore with_kept dropped
    takes_kept_run stays dropped takes still =
        subst (λ (x : NoteState D). TakesMore x dropped) as_kept
        (takes_unlogged s upto notes may is now stays dropped (taking dropped takes) w few
        (held s.sizes s.synced s.logged upto run_ready still))

  -- it is logged
  module _ {now : State D} {w : ℕ} {have keep : List EntryNote} (all : w ≡ length notes)
      (ready : StaysReady s.base notes s.log s.written now w)
      (lasts : now.synced ≡ length now.sections) (from : IsFrom s.base now)
      (has : have ≡ s.logged ++ run) (none : keep ≡ []) where
    abbrev with_run : NoteState D
    with_run = record s { log = now; synced = upto; logged = have; kept = keep; written = 0 }

    as_logged : record s {
      log = now;
      synced = upto;
      logged = s.logged ++ notes;
      kept = [];
      written = 0;
    } ≡ with_run
    as_logged = λ j. record s {
      log = now;
      synced = upto;
      logged = (ap (λ (l : List EntryNote). s.logged ++ l) shown ∙ sym has) j;
      kept = sym none j;
      written = 0;
    }

    all_ready : ReadyAt s.sizes s.synced s.logged upto s.base now notes (length notes)
    all_ready =
        subst (ReadyAt s.sizes s.synced s.logged upto s.base now notes) all
        (ready s.sizes s.synced s.logged upto run_ready)

    pub run_logged : IsNoteLog with_run
    run_logged = subst IsNoteLog as_logged (logged s upto notes may is now all_ready lasts from)

    pub takes_run : (s.written ≡ length notes → now.id ≡ s.log.id) → (dropped : List ℕ)
        → TakesMore before dropped → TakesMore with_run dropped
    takes_run stays dropped takes =
        subst (λ (x : NoteState D). TakesMore x dropped) as_logged
        (takes_logged s upto notes may is now stays dropped (taking dropped takes) all_ready lasts
        from)
