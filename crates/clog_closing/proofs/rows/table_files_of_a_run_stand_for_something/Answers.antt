use Rattle.std.proofs.Common.{[], ◌∷◌}
use Rattle.clog_base.proofs.Members.{further, here}
use Rattle.clog_applied.specs.Worked.{comes, file_to, goes_in, goes_out, the_end}
use Rattle.clog_closing.specs.WorkedComing.{for_nothing, overwritten_changes}
use Rattle.clog_closing.proofs.WorkedFiles as worked
use Rattle.clog_closing.proofs.rows.table_files_of_a_run_stand_for_something.Goals as goal

pub returns-clause-nothing : goal.returns-clause-nothing
returns-clause-nothing g archives base writers ms now changes =
    worked.not_for_nothing archives base writers ms changes now

pub returns-clause-over : goal.returns-clause-over
returns-clause-over g archives base writers ms now =
    worked.not_for_nothing archives base writers ms overwritten_changes now
    (further goes_in (comes (file_to the_end) ∷ comes for_nothing ∷ goes_out ∷ [])
    (comes for_nothing) (further (comes (file_to the_end)) (comes for_nothing ∷ goes_out ∷ [])
    (comes for_nothing) (here (comes for_nothing) (goes_out ∷ []))))

pub returns-clause-hollow : goal.returns-clause-hollow
returns-clause-hollow g archives base now = worked.not_hollow archives base now
