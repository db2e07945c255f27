-- What a seat's trail is after further steps that retire no memtable, and switch none.
use Rattle.std.specs.Prelude.{List}
use Rattle.path_rule.specs.declared.view.OwnStep.{OwnStep}
use Rattle.path_flush.specs.FlushSteps.{RetiresNone, SwitchesNone}
use Rattle.path_flush.specs.Grown.{HasGrown}

-- A trail has grown, by steps of which none retires a memtable, and none is one of a switch.
abbrev pub GrowsUnretired : List OwnStep → List OwnStep → Type 0
GrowsUnretired before after =
    (g : HasGrown before after) × RetiresNone g.newer × SwitchesNone g.newer
