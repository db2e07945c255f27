use Rattle.clog_writers.proofs.OneWriter.{first_of_each}
use Rattle.clog_writers.proofs.laws.the_first_of_a_history_are_the_first_of_each.Goals as goal

pub returns : goal.returns
returns g = λ writers n ms history. first_of_each writers n ms history
