use Rattle.clog_crash.proofs.changes.BothWays.{cells, rows_are}
use Rattle.clog_crash.proofs.changing.files_restore_what_they_read.Goals as goal

pub returns-clause-cells : goal.returns-clause-cells
returns-clause-cells c = cells

pub returns-clause-rows : goal.returns-clause-rows
returns-clause-rows c = rows_are
