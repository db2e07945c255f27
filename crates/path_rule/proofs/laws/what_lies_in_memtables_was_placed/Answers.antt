use Rattle.path_rule.specs.Lasts.{shows_of}
use Rattle.path_rule.proofs.boxes.InItsBox.{belongs_there}
use Rattle.path_rule.proofs.laws.what_lies_in_memtables_was_placed.Goals as goal

pub returns : goal.returns
returns g c = λ o size s r. belongs_there (shows_of g.K.Keeper.holds) o size s r
