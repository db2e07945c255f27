use Rattle.std.proofs.Common.{inl, inr}
use Rattle.clog_crash.proofs.Good.{counts, counted}
use Rattle.clog_crash.proofs.laws.cells_of_table_files_and_of_the_log_count.Goals as goal

pub returns-clause-table : goal.returns-clause-table
returns-clause-table c files rows key cell restored is =
    counts files rows key cell restored (inl is)

pub returns-clause-log : goal.returns-clause-log
returns-clause-log c files rows key cell restored is =
    counts files rows key cell restored (inr is)

pub returns-clause-no_other : goal.returns-clause-no_other
returns-clause-no_other c = counted
