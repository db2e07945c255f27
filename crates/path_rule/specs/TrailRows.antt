-- Worked rows of what a seat's steps tell of memtables: steps of seat 0 on table 0.
use Rattle.std.specs.Prelude.{ℕ, suc, ◌+◌, ◌^◌, List, [], ◌∷◌, Option, None}
use Rattle.path_core.specs.declared.event.Cursor.TheVariants.{OldestLive}
use Rattle.path_core.specs.declared.event.Event.TheVariants.{Look, Finalise, Put}
use Rattle.path_core.specs.declared.event.Place.TheVariants.{Bound}
use Rattle.path_rule.specs.declared.view.OwnStep.{OwnStep}

-- The seat made memtable m final, which was raised to the key.
abbrev pub made_final_at : ℕ → ℕ → List OwnStep
made_final_at m key = record {
  event = Finalise 0 (record { 0 = 0 }) m;
  found = key + 2 ^ 62;
  filed = None;
} ∷ []

-- It looked at the bound of memtable m, and found this word.
abbrev pub looked_at : ℕ → ℕ → List OwnStep
looked_at m word = record {
  event = Look 0 (Bound (record { 0 = 0 }) m);
  found = word;
  filed = None;
} ∷ []

-- It retired memtable m, with a table file that begins above a key, or without one.
abbrev pub retired : ℕ → Option ℕ → List OwnStep
retired m filed = record {
  event = Put 0 (OldestLive (record { 0 = 0 })) (suc m);
  found = suc m;
  filed = filed;
} ∷ []
