use Rattle.path_rule.specs.Lasts.{shows_of}
use Rattle.path_rule.proofs.boxes.SeenInterval.{sees_its_interval}
use Rattle.path_rule.proofs.laws.what_was_seen_is_the_memtables_interval.Goals as goal

pub returns : goal.returns
returns g c = λ o size s r j w v q. sees_its_interval (shows_of g.K.Keeper.holds) o size s r j w v q
