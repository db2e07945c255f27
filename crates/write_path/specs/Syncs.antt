-- What a sync answers, and what is so then of its seat and the seat's list.
use Rattle.std.specs.Prelude.{◌≡◌, ℕ, ◌≤◌}
use Rattle.std.specs.List.{Contains}
use Rattle.path_core.specs.declared.note.EntryNote.{EntryNote}
use Rattle.path_rule.specs.declared.answer.SyncAnswer.{SyncAnswer}
use Rattle.path_rule.specs.declared.answer.SyncAnswer.TheVariants.{Done, Stopped, OutOfMemory}
use Rattle.path_rule.specs.declared.view.View.{View}
use Rattle.path_rule.specs.SyncAnswers.{Answers}
use Rattle.path_flush.specs.OwnWrites.{writes_of}

-- Done: each write of the seat's list ends at or below the key.
abbrev pub CoversList : SyncAnswer → View → Type 0
CoversList (Done s) v = (n : EntryNote) → Contains (writes_of v.trail) n → n.end.0 ≤ s
CoversList (Stopped at_open now) v = Unit {0}
CoversList OutOfMemory v = Unit {0}

-- A sync by seat w answered this. The seat made steps of barriers and syncs alone, of which one at
-- most issued a barrier, its list is as it was, and what `Answers` says of the keys and counts is
-- so.
pub record Syncs (w opened : ℕ) (v : View) (answer : SyncAnswer) (after : View) : Type 0 where
  pub answers : Answers w 1 opened v answer after
  pub list : writes_of after.trail ≡ writes_of v.trail
  pub covers : CoversList answer after
