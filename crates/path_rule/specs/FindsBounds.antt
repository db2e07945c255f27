-- At which key a seat found memtables final, or made them so, and which it retired.
use Rattle.std.specs.Prelude.{◌≡◌, ◌⊎◌, ℕ, suc, List, [], ◌∷◌, Option}
use Rattle.clog_base.specs.declared.cell.Table.{Table}
use Rattle.path_core.specs.declared.event.Cursor.TheVariants.{OldestLive}
use Rattle.path_core.specs.declared.event.Event.{Event}
use Rattle.path_core.specs.declared.event.Event.TheVariants.{Look, Finalise, Put}
use Rattle.path_core.specs.declared.event.Place.TheVariants.{Bound}
use Rattle.path_core.specs.declared.state.Bound.TheVariants.{Raising, Final}
use Rattle.path_rule.specs.declared.view.OwnStep.{OwnStep}
use Rattle.path_rule.specs.Layout.{bound_word}

-- At a step at which this word was found memtable m of table t was final at the key; or it was
-- raised to the key, and the step made it final.
abbrev pub FindsFinalBy : ℕ → ℕ → ℕ → Event → ℕ → Type 0
FindsFinalBy t m key (Look by (Bound table memtable)) found =
    (table.0 ≡ t) × (memtable ≡ m) × (found ≡ bound_word (Final (record { 0 = key })))
FindsFinalBy t m key (Finalise by table memtable) found =
    (table.0 ≡ t) × (memtable ≡ m) × (found ≡ bound_word (Raising (record { 0 = key })))
FindsFinalBy t m key _ found = ⊥

-- at one of these steps
abbrev pub FindsFinal : ℕ → ℕ → ℕ → List OwnStep → Type 0
FindsFinal t m key [] = ⊥
FindsFinal t m key (s ∷ ss) = FindsFinalBy t m key s.event s.found ⊎ FindsFinal t m key ss

-- A step that gave a table file which begins above a key, or gave none, retired memtable m of
-- table t: the next one is the least that is not retired.
abbrev pub RetiresBy : Table → ℕ → Option ℕ → Event → Option ℕ → Type 0
RetiresBy t m gave (Put by cursor value) filed =
    (cursor ≡ OldestLive t) × (value ≡ suc m) × (filed ≡ gave)
RetiresBy t m gave _ filed = ⊥

-- one of these steps did
abbrev pub Retires : Table → ℕ → Option ℕ → List OwnStep → Type 0
Retires t m gave [] = ⊥
Retires t m gave (s ∷ ss) = RetiresBy t m gave s.event s.filed ⊎ Retires t m gave ss
