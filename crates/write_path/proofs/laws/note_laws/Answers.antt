use Rattle.write_path.proofs.LeastEntry.{entry_least}
use Rattle.clog_notes.proofs.WholeNotes.{is_whole}
use Rattle.write_path.proofs.NoteLaws.{is_depositable, ends_at_log}
use Rattle.write_path.proofs.laws.note_laws.Goals as goal

pub returns-clause-whole : goal.returns-clause-whole
returns-clause-whole c = is_whole

pub returns-clause-claimed : goal.returns-clause-claimed
returns-clause-claimed c = is_depositable

pub returns-clause-claim : goal.returns-clause-claim
returns-clause-claim c = ends_at_log

pub returns-clause-least : goal.returns-clause-least
returns-clause-least c = entry_least
