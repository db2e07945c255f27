use Rattle.clog_layout.proofs.Lines.{are_notes, lawful, lines_for}
use Rattle.clog_layout.proofs.laws.whole_notes_are_logged_lines.Goals as goal

pub returns-clause-exist : goal.returns-clause-exist
returns-clause-exist c base notes whole =
    (lines_for notes base whole, are_notes notes base whole)

pub returns-clause-lawful : goal.returns-clause-lawful
returns-clause-lawful c base capacity notes history few is are =
    lawful base capacity few notes history is are
