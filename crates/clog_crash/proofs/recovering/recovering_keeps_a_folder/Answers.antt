use Rattle.clog_crash.proofs.flush.Recovered.{file_comes, segment_goes, still_covered}
use Rattle.clog_crash.proofs.recovering.recovering_keeps_a_folder.Goals as goal

pub returns-clause-comes : goal.returns-clause-comes
returns-clause-comes c = file_comes

pub returns-clause-goes : goal.returns-clause-goes
returns-clause-goes c = segment_goes

pub returns-clause-others : goal.returns-clause-others
returns-clause-others c files id other undamaged covered =
    still_covered files id undamaged covered other
