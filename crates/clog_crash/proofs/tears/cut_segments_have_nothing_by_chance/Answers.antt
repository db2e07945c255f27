use Rattle.clog_crash.proofs.rest.CutOff.{cut_off}
use Rattle.clog_crash.proofs.tears.cut_segments_have_nothing_by_chance.Goals as goal

pub returns : goal.returns
returns c = cut_off
