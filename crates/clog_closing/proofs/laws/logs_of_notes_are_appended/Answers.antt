use Rattle.clog_closing.proofs.Logs.{are_files, is_appended}
use Rattle.clog_closing.proofs.laws.logs_of_notes_are_appended.Goals as goal

pub returns-clause-is_appended : goal.returns-clause-is_appended
returns-clause-is_appended c = is_appended

pub returns-clause-are_files : goal.returns-clause-are_files
returns-clause-are_files c = are_files
