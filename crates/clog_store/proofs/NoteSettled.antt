-- All sections of a log of notes are made to last, or it is refused.
use Rattle.std.proofs.Common.{ℕ, List, length, sym, ◌∙◌, ap}
use Rattle.std.specs.Prelude.{Result, Ok, Err, OnOk}
use Rattle.clog_base.specs.declared.sizes.Sizes.{Sizes}
use Rattle.path_core.specs.declared.note.EntryNote.{EntryNote}
use Rattle.clog_segments.specs.declared.written.StoreFault.{StoreFault}
use Rattle.clog_segments.specs.declared.written.StoreFault.TheVariants.{Stopped, OutOfMemory}
use Rattle.clog_segments.specs.Life.{State}
use Rattle.clog_segments.specs.NoteLog.{IsHeld}
use Rattle.clog_store.specs.NoteSteps.{StaysReady, standing}
use Rattle.clog_segments.specs.Stepped.{Settles}
use Rattle.clog_store.proofs.NoteHeld.{held_same, held_settled}

module _ {D T : Type 0} (base : ℕ) (notes : List EntryNote) (log now : State D) (written : ℕ) where
  pub held_after : (sizes : Sizes) (synced : ℕ) (logged : List EntryNote)
      (result : Result T StoreFault) → Settles log now result
      → IsHeld (standing sizes synced logged base log notes written)
      → IsHeld (standing sizes synced logged base now notes written)
  held_after sizes synced logged (Ok done) settles h =
      held_settled base notes sizes synced logged log now written
      (settles ∙ (λ i. record log {
        disk = now.disk;
        synced = length log.sections;
        is_stopped = sym (ap (λ (s : State D). s.is_stopped) settles) i;
      })) h
  held_after sizes synced logged (Err OutOfMemory) settles h =
      held_same base notes sizes synced logged log now written
      (settles ∙ (λ i. record log {
        disk = now.disk;
        is_stopped = sym (ap (λ (s : State D). s.is_stopped) settles) i;
      })) h
  held_after sizes synced logged (Err Stopped) settles h =
      held_same base notes sizes synced logged log now written
      (settles ∙ (λ i. record log {
        disk = now.disk;
        is_stopped = sym (ap (λ (s : State D). s.is_stopped) settles) i;
      })) h

  pub ready_after : (before : State D) (from : ℕ) (result : Result T StoreFault)
      → Settles log now result → StaysReady base notes before from log written
      → OnOk result (StaysReady base notes before from now written)
  ready_after before from (Err fault) settles ready = tt
  ready_after before from (Ok done) settles ready = λ sizes synced logged upto at.
      let then_ = ready sizes synced logged upto at in
      record {
        few = then_.few;
        good = then_.good;
        held = held_after sizes synced logged (Ok done) settles then_.held;
        ahead = then_.ahead;
      }
