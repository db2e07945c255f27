use Rattle.clog_writers.proofs.OneWriter.{by_one_writer}
use Rattle.clog_writers.proofs.laws.first_lines_are_those_of_one_writer.Goals as goal

pub returns : goal.returns
returns g = λ ms log. by_one_writer ms log
