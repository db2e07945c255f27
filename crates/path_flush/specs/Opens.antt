-- How many memtables of a table a seat has opened.
use Rattle.std.specs.Prelude.{ℕ, ◌==◌, Bool, false, List}
use Rattle.std.specs.List.{count_by}
use Rattle.path_core.specs.declared.event.Event.{Event}
use Rattle.path_core.specs.declared.event.Event.TheVariants.{Switch}
use Rattle.path_core.specs.declared.event.SwitchPart.TheVariants.{Open}
use Rattle.path_rule.specs.declared.view.OwnStep.{OwnStep}

-- The step makes the next memtable of table t the newest.
abbrev pub is_opening : ℕ → Event → Bool
is_opening t (Switch by table memtable Open) = table.0 == t
is_opening t _ = false

-- how many of these steps do
abbrev pub opens : ℕ → List OwnStep → ℕ
opens t steps = count_by (λ (s : OwnStep). is_opening t s.event) steps
