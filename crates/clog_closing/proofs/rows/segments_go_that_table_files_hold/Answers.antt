use Rattle.clog_closing.proofs.WorkedEnds as worked
use Rattle.clog_closing.proofs.rows.segments_go_that_table_files_hold.Goals as goal

pub returns-clause-good : goal.returns-clause-good
returns-clause-good g at = worked.good_gone at

pub returns-clause-lost : goal.returns-clause-lost
returns-clause-lost g at = worked.lost at

pub returns-clause-early : goal.returns-clause-early
returns-clause-early g at = worked.early at

pub returns-clause-unnamed : goal.returns-clause-unnamed
returns-clause-unnamed g at = worked.unnamed at

pub returns-clause-named : goal.returns-clause-named
returns-clause-named g at = worked.named at
