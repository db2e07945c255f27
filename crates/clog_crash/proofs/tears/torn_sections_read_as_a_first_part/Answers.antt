use Rattle.clog_crash.proofs.torn.Torn.{torn}
use Rattle.clog_crash.proofs.tears.torn_sections_read_as_a_first_part.Goals as goal

pub returns : goal.returns
returns c = torn
