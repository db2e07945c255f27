use Rattle.clog_scan.proofs.NotBehind.{not_behind}
use Rattle.clog_scan.proofs.laws.reading_stops_at_the_end.Goals as goal

pub returns : goal.returns
returns c = not_behind
