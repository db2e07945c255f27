use Rattle.path_rule.proofs.boxes.OneHolder.{one_holder}
use Rattle.path_rule.specs.Lasts.{shows_of}
use Rattle.path_rule.proofs.laws.each_box_has_one_holder.Goals as goal

pub returns : goal.returns
returns g c = λ o size s r. one_holder (shows_of g.K.Keeper.holds) o size s r
