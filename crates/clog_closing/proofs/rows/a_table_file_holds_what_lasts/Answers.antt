use Rattle.clog_closing.proofs.WorkedDeeds as worked
use Rattle.clog_closing.proofs.rows.a_table_file_holds_what_lasts.Goals as goal

pub returns-clause-good : goal.returns-clause-good
returns-clause-good g at upper = λ low high. worked.good_files at upper low high

pub returns-clause-far : goal.returns-clause-far
returns-clause-far g at = worked.far at

pub returns-clause-short : goal.returns-clause-short
returns-clause-short g at = worked.short at

pub returns-clause-late : goal.returns-clause-late
returns-clause-late g at = worked.late at

pub returns-clause-empty : goal.returns-clause-empty
returns-clause-empty g at = worked.empty at

pub returns-clause-for_nothing : goal.returns-clause-for_nothing
returns-clause-for_nothing g at = worked.for_nothing at
