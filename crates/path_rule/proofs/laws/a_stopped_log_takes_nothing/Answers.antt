use Rattle.path_rule.proofs.log.StoppedTakes.{takes_nothing}
use Rattle.path_rule.proofs.laws.a_stopped_log_takes_nothing.Goals as goal

pub returns : goal.returns
returns g = λ opened x y steps. takes_nothing opened steps x y
