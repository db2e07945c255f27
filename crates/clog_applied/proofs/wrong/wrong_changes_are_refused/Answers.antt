use Rattle.clog_applied.proofs.rows.Archived.{not_unarchived}
use Rattle.clog_applied.proofs.rows.Wrong.{not_come_early, not_gone_early, not_stray}
use Rattle.clog_applied.proofs.rows.WrongLines.{not_appended_twice, not_left}
use Rattle.clog_applied.proofs.wrong.wrong_changes_are_refused.Goals as goal

pub returns-clause-gone_early : goal.returns-clause-gone_early
returns-clause-gone_early c = not_gone_early

pub returns-clause-come_early : goal.returns-clause-come_early
returns-clause-come_early c = not_come_early

pub returns-clause-unarchived : goal.returns-clause-unarchived
returns-clause-unarchived c = not_unarchived

pub returns-clause-appended_twice : goal.returns-clause-appended_twice
returns-clause-appended_twice c = not_appended_twice

pub returns-clause-stray : goal.returns-clause-stray
returns-clause-stray c = not_stray

pub returns-clause-left : goal.returns-clause-left
returns-clause-left c = not_left
