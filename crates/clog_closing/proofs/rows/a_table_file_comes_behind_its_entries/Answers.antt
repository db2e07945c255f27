use Rattle.clog_closing.proofs.WorkedComing as worked
use Rattle.clog_closing.proofs.WorkedFiles.{not_missing}
use Rattle.clog_closing.proofs.rows.a_table_file_comes_behind_its_entries.Goals as goal

pub returns-clause-first : goal.returns-clause-first
returns-clause-first g other = worked.come_first other

pub returns-clause-second : goal.returns-clause-second
returns-clause-second g archives base other now = worked.not_second archives base other now

pub returns-clause-gone_early : goal.returns-clause-gone_early
returns-clause-gone_early g archives base writers ms now =
    worked.not_gone_early archives base writers ms now

pub returns-clause-come_early : goal.returns-clause-come_early
returns-clause-come_early g archives base writers ms now =
    worked.not_come_early archives base writers ms now

pub returns-clause-unasked : goal.returns-clause-unasked
returns-clause-unasked g archives base writers now = worked.not_unasked archives base writers now

pub returns-clause-missing : goal.returns-clause-missing
returns-clause-missing g archives base writers ms changes =
    not_missing archives base writers ms changes
