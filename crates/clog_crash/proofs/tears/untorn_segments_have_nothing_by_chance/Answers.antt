use Rattle.clog_crash.proofs.rest.Untorn.{untorn}
use Rattle.clog_crash.proofs.tears.untorn_segments_have_nothing_by_chance.Goals as goal

pub returns : goal.returns
returns c = untorn
