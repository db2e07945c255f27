-- Worked rows of switches of table 0 by seat 0: the steps, the newest first.
use Rattle.std.specs.Prelude.{ℕ, ◌+◌, ◌^◌, List, [], ◌∷◌}
use Rattle.path_core.specs.declared.event.Cursor.TheVariants.{OldestLive}
use Rattle.path_core.specs.declared.event.Event.TheVariants.{Look, Switch, Raise, Finalise}
use Rattle.path_core.specs.declared.event.Place.TheVariants.{CursorWord, Log, Newest, TurnWord}
use Rattle.path_core.specs.declared.event.SwitchPart.TheVariants.{Clear, Open, Mark}
use Rattle.path_core.specs.declared.event.Turn.TheVariants.{Flush}
use Rattle.path_rule.specs.declared.view.OwnStep.{OwnStep}
use Rattle.write_path.specs.SealedRows.{step_of}

-- The log stands at this key: memtable m is switched and made final there.
abbrev pub switched_at : ℕ → ℕ → List OwnStep
switched_at m key = step_of (Finalise 0 (record { 0 = 0 }) m) (key + 2 ^ 62)
    ∷ step_of (Raise 0 (record { 0 = 0 }) m (record { 0 = key })) (2 ^ 62)
    ∷ step_of (Look 0 Log) key
    ∷ step_of (Switch 0 (record { 0 = 0 }) m Mark) (2 ^ 62)
    ∷ step_of (Switch 0 (record { 0 = 0 }) (m + 1) Open) (m + 1)
    ∷ step_of (Switch 0 (record { 0 = 0 }) (m + 1) Clear) 0
    ∷ []

-- Another seat has the turn.
abbrev pub found_taken : List OwnStep
found_taken = step_of (Look 0 (TurnWord (Flush (record { 0 = 0 })))) 1 ∷ []

-- These were found as the least memtable that is not retired, and as the newest.
abbrev pub found_both : ℕ → ℕ → List OwnStep
found_both oldest newest = step_of (Look 0 (Newest (record { 0 = 0 }))) newest
    ∷ step_of (Look 0 (CursorWord (OldestLive (record { 0 = 0 })))) oldest
    ∷ []

-- The newest memtable is this one, and so is the least one that is not retired.
abbrev pub found_alone : ℕ → List OwnStep
found_alone m = found_both m m
