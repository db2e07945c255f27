-- A log of notes stands while its disk is called beside it: nothing of the log changes, but that
-- the disk may have failed.
use Rattle.std.proofs.Common.{◌≡◌, ℕ, List, Option, false, sym, ◌∙◌, ap, subst}
use Rattle.std.specs.Prelude.{Result, Ok, Err}
use Rattle.std.proofs.lemmas.Bool.{true≢false}
use Rattle.clog_segments.specs.declared.written.StoreFault.{StoreFault}
use Rattle.clog_segments.specs.declared.written.StoreFault.TheVariants.{Stopped, OutOfMemory}
use Rattle.clog_disk.specs.Files.{Files}
use Rattle.clog_disk.specs.Images.{IsLater}
use Rattle.clog_crash.specs.Readings.{Reading}
use Rattle.clog_segments.specs.Life.{Lives, LivesOn, State}
use Rattle.clog_segments.specs.NamesLast.{NamesGoOn}
use Rattle.clog_segments.specs.NoteLog.{IsNoteLog, NoteState, Stands}
use Rattle.clog_store.specs.NoteSteps.{GoesOn}
use Rattle.clog_segments.specs.Stepped.{Passes}
use Rattle.clog_store.proofs.NoteFrom.{from_same}
use Rattle.clog_store.proofs.NoteHeld.{held_same}

module _ {D : Type 0} (s : NoteState D) (now : State D) where
  -- its log is the same, but for its disk
  abbrev Same : Type 0
  Same = now ≡ record s.log { disk = now.disk; is_stopped = now.is_stopped }

  pub stands_same : Same → Stands s → Stands (record s { log = now })
  stands_same is st =
      let t : State D = record s.log { disk = now.disk; is_stopped = now.is_stopped } in
      let stands : Stands (record s { log = t }) = record {
        shown = st.shown;
        no_more_shown = st.no_more_shown;
        all = st.all;
        lasting = st.lasting;
        no_more = st.no_more;
        lasts = st.lasts;
      } in
      subst (λ (x : State D). Stands (record s { log = x })) (sym is) stands

  pub noted_same : Same → (now.is_stopped ≡ false → s.log.is_stopped ≡ false) → IsNoteLog s
      → IsNoteLog (record s { log = now })
  noted_same is runs n = record {
    fits = n.fits;
    from = from_same s.base s.log now is n.from;
    few = n.few;
    good = n.good;
    below = n.below;
    ended = n.ended;
    above = n.above;
    stands = stands_same is n.stands;
    held = λ still. held_same s.base s.kept s.sizes s.synced s.logged s.log now s.written is
        (n.held (runs still));
  }

  pub passes_same : {T : Type 0} (r : Result T StoreFault) → Passes s.log now r → Same
  passes_same (Ok x) passes =
      passes ∙ (λ i. record s.log {
        disk = now.disk;
        is_stopped = sym (ap (λ (x : State D). x.is_stopped) passes) i;
      })
  passes_same (Err OutOfMemory) passes =
      passes ∙ (λ i. record s.log {
        disk = now.disk;
        is_stopped = sym (ap (λ (x : State D). x.is_stopped) passes) i;
      })
  passes_same (Err Stopped) passes =
      passes ∙ (λ i. record s.log {
        disk = now.disk;
        is_stopped = sym (ap (λ (x : State D). x.is_stopped) passes) i;
      })

  pub passes_runs : {T : Type 0} (r : Result T StoreFault) → Passes s.log now r
      → now.is_stopped ≡ false → s.log.is_stopped ≡ false
  passes_runs (Ok x) passes still = sym (ap (λ (x : State D). x.is_stopped) passes) ∙ still
  passes_runs (Err OutOfMemory) passes still =
      sym (ap (λ (x : State D). x.is_stopped) passes) ∙ still
  passes_runs (Err Stopped) passes still =
      absurd (true≢false (sym (ap (λ (x : State D). x.is_stopped) passes) ∙ still))

  pub noted_passed : {T : Type 0} (r : Result T StoreFault) → Passes s.log now r → IsNoteLog s
      → IsNoteLog (record s { log = now })
  noted_passed {T} r passes n =
      noted_same (passes_same {T = T} r passes) (passes_runs {T = T} r passes) n

-- and it goes on
pub passes_goes : {D : Type 0} (files : D → Option Files) (moment : D → ℕ)
    (since : D → ℕ → Files → Type 0) (leaves : D → List ℕ → Option (List ℕ) → Type 0)
    (read_at : D → ℕ → Option Reading) (lasted_at : D → ℕ → Type 0) (before now : State D)
    {T : Type 0} (r : Result T StoreFault) → Passes before now r
    → IsLater moment read_at lasted_at before.disk now.disk
    → (Lives files moment since leaves read_at lasted_at before
    → LivesOn files moment since leaves read_at lasted_at before now)
    → NamesGoOn files leaves before now
    → GoesOn files moment since leaves read_at lasted_at before now
passes_goes files moment since leaves read_at lasted_at before now {T} r passes later lives names =
    record {
      opened = (by r passes).0;
      first = (by r passes).1;
      later = later;
      lives = lives;
      names = names;
    }
  where
    by : (x : Result T StoreFault) → Passes before now x
        → (now.opened ≡ before.opened) × (now.first ≡ before.first)
    by (Ok x) is = (ap (λ s. s.opened) is, ap (λ s. s.first) is)
    by (Err OutOfMemory) is = (ap (λ s. s.opened) is, ap (λ s. s.first) is)
    by (Err Stopped) is = (ap (λ s. s.opened) is, ap (λ s. s.first) is)
