-- Worked rows of sealed writes: short trails, the newest step first.
use Rattle.std.specs.Prelude.{ℕ, List, [], ◌∷◌, None}
use Rattle.op_core.specs.declared.count.Order.TheVariants.{Append}
use Rattle.path_core.specs.declared.event.Carried.TheVariants.{Deposit}
use Rattle.path_core.specs.declared.event.ClaimKind.TheVariants.{Entry}
use Rattle.path_core.specs.declared.event.Cursor.TheVariants.{Synced}
use Rattle.path_core.specs.declared.event.Event.{Event}
use Rattle.path_core.specs.declared.event.Event.TheVariants.{Look, Claim, Close}
use Rattle.path_core.specs.declared.event.Place.TheVariants.{CursorWord}
use Rattle.path_core.specs.declared.note.EntryNote.{EntryNote}
use Rattle.path_rule.specs.declared.view.OwnStep.{OwnStep}

abbrev pub step_of : Event → ℕ → OwnStep
step_of e found = record { event = e; found = found; filed = None }

-- seat 0 logged a write
abbrev pub logged : EntryNote → OwnStep
logged n = step_of (Close 0 Append 0 (Deposit n)) 1

-- it found this synced key
abbrev pub found_synced : ℕ → OwnStep
found_synced key = step_of (Look 0 (CursorWord Synced)) key

-- it claimed the range of a further one
abbrev pub claimed : ℕ → ℕ → OwnStep
claimed from to = step_of (Claim 0 (record { 0 = from }) (record { 0 = to }) Entry) to

-- the synced key was found behind the write; in front of it; and behind a further claim
abbrev pub behind_it : EntryNote → ℕ → List OwnStep
behind_it n key = found_synced key ∷ logged n ∷ []

abbrev pub before_it : EntryNote → ℕ → List OwnStep
before_it n key = logged n ∷ found_synced key ∷ []

abbrev pub behind_a_claim : EntryNote → ℕ → ℕ → ℕ → List OwnStep
behind_a_claim n from to key = found_synced key ∷ claimed from to ∷ logged n ∷ []
