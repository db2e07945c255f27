use Rattle.path_rule.specs.Lasts.{shows_of}
use Rattle.path_rule.proofs.boxes.InItsBox.{lies_in_its_box}
use Rattle.path_rule.proofs.laws.what_was_placed_lies_in_memtables.Goals as goal

pub returns : goal.returns
returns g c = λ o size s r. lies_in_its_box (shows_of g.K.Keeper.holds) o size s r
