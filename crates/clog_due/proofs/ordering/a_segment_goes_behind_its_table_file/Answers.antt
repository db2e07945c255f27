use Rattle.clog_due.proofs.FirstFile.{right, wrong}
use Rattle.clog_due.proofs.WrongOrders.{early, first_file, late}
use Rattle.clog_due.proofs.ordering.a_segment_goes_behind_its_table_file.Goals as goal

pub returns-clause-right : goal.returns-clause-right
returns-clause-right c = right

pub returns-clause-wrong : goal.returns-clause-wrong
returns-clause-wrong c = wrong

pub returns-clause-early : goal.returns-clause-early
returns-clause-early c = early

pub returns-clause-late : goal.returns-clause-late
returns-clause-late c = late

pub returns-clause-there : goal.returns-clause-there
returns-clause-there c = first_file
