use Rattle.clog_text.proofs.FileParts.{in_two_parts}
use Rattle.clog_text.proofs.file.reading_laws.Goals as goal

pub returns : goal.returns
returns c = record { parts = in_two_parts }
