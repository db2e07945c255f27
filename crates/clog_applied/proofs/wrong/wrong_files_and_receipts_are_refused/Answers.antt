use Rattle.clog_applied.proofs.rows.Wrong.{no_gap}
use Rattle.clog_applied.proofs.rows.WrongLines.{not_start_told, not_without_cell}
use Rattle.clog_applied.proofs.wrong.wrong_files_and_receipts_are_refused.Goals as goal

pub returns-clause-gap : goal.returns-clause-gap
returns-clause-gap c = no_gap

pub returns-clause-lacks_a_cell : goal.returns-clause-lacks_a_cell
returns-clause-lacks_a_cell c = not_without_cell

pub returns-clause-start_told : goal.returns-clause-start_told
returns-clause-start_told c = not_start_told
