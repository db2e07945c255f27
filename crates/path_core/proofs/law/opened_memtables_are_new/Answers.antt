use Rattle.path_core.proofs.runs.EveryRun.{from_opening}
use Rattle.path_core.specs.declared.event.Event.TheVariants.{Switch}
use Rattle.path_core.specs.declared.event.SwitchPart.TheVariants.{Open}
use Rattle.path_core.proofs.runs.Loosened.{loosened}
use Rattle.path_core.proofs.places.AtRest.{opens_new_memtable}
use Rattle.path_core.proofs.law.opened_memtables_are_new.Goals as goal

pub returns : goal.returns
returns c = λ x y events by memtable table start run allowed.
    opens_new_memtable y (from_opening x y events start run).switches by table memtable
    (loosened y (Switch by table memtable Open) allowed)
