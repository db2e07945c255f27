use Rattle.clog_segments.proofs.OpensWell.{not_refused}
use Rattle.clog_segments.proofs.laws.what_can_be_opened_is_opened.Goals as goal

pub returns : goal.returns
returns c = not_refused
