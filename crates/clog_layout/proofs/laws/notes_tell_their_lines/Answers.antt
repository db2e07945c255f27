use Rattle.clog_layout.proofs.Lines.{is_entry, is_position, touches_it}
use Rattle.clog_layout.proofs.laws.notes_tell_their_lines.Goals as goal

pub returns-clause-position : goal.returns-clause-position
returns-clause-position c = is_position

pub returns-clause-entry : goal.returns-clause-entry
returns-clause-entry c = is_entry

pub returns-clause-tables : goal.returns-clause-tables
returns-clause-tables c = touches_it
