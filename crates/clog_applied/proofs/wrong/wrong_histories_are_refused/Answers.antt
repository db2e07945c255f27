use Rattle.clog_applied.proofs.rows.Wrong.{not_apart, not_none, not_twice}
use Rattle.clog_applied.proofs.rows.WrongLines.{not_by_the_other, not_out_of_order}
use Rattle.clog_applied.proofs.wrong.wrong_histories_are_refused.Goals as goal

pub returns-clause-twice : goal.returns-clause-twice
returns-clause-twice c = not_twice

pub returns-clause-not_logged : goal.returns-clause-not_logged
returns-clause-not_logged c = not_none

pub returns-clause-out_of_order : goal.returns-clause-out_of_order
returns-clause-out_of_order c = not_out_of_order

pub returns-clause-by_the_other : goal.returns-clause-by_the_other
returns-clause-by_the_other c = not_by_the_other

pub returns-clause-in_one_section : goal.returns-clause-in_one_section
returns-clause-in_one_section c = not_apart
