-- A log key that was found is above the seat's own writes.
use Rattle.std.proofs.Common.{◌≡◌, ℕ, arith}
use Rattle.std.specs.List.{Contains}
use Rattle.path_core.specs.declared.event.Event.TheVariants.{Look}
use Rattle.path_core.specs.declared.event.Place.TheVariants.{Log}
use Rattle.path_core.specs.declared.note.EntryNote.{EntryNote}
use Rattle.path_rule.specs.declared.view.View.{View}
use Rattle.path_rule.specs.Rounds.{WroteBelow}
use Rattle.path_rule.specs.Rule.{Was}
use Rattle.path_rule.proofs.log.OwnWrites.{wrote_below, below_log}

-- All that a seat wrote ends at or below a log key that it found.
pub under_log : (v : View) (w n : ℕ) (was : Was v w (Look w Log)) → was.core.log ≡ n
    → WroteBelow n v.trail
under_log v w n was log = wrote_below v w (Look w Log) was n
    (λ (m : EntryNote) (h : Contains was.core.notes m).
    let low = below_log was.core was.lawful m h in omega arith)
