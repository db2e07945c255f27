use Rattle.clog_crash.proofs.counts.Growing.{grown_holds}
use Rattle.clog_crash.proofs.placing.appended_segments_hold_their_entries.Goals as goal

pub returns : goal.returns
returns c = grown_holds
