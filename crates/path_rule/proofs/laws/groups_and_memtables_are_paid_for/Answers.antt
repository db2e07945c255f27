use Rattle.path_rule.proofs.log.Issues.{paid_for}
use Rattle.path_rule.proofs.laws.groups_and_memtables_are_paid_for.Goals as goal

pub returns : goal.returns
returns g c = λ o size s r. paid_for size r.events r.core r.fit r.run r.paid
