use Rattle.path_rule.specs.Lasts.{shows_of}
use Rattle.path_rule.proofs.boxes.OneInHand.{one_in_hand}
use Rattle.path_rule.proofs.laws.each_memtable_box_has_one_holder.Goals as goal

pub returns : goal.returns
returns g c = λ o size s r. one_in_hand (shows_of g.K.Keeper.holds) o size s r
