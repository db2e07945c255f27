use Rattle.clog_closing.proofs.WorkedFiles as worked
use Rattle.clog_closing.proofs.rows.segments_of_a_run_go_whole.Goals as goal

pub returns-clause-unnamed : goal.returns-clause-unnamed
returns-clause-unnamed g base writers ms now = worked.not_unnamed base writers ms now

pub returns-clause-cut_off : goal.returns-clause-cut_off
returns-clause-cut_off g archives base writers ms now more =
    worked.not_cut_off archives base writers ms now more
