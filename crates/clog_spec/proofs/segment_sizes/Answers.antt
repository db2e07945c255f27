use Rattle.clog_spec.proofs.Lengths.{length-entry_bytes}
use Rattle.clog_spec.proofs.segment_sizes.Goals as goal

pub returns-clause-entry : goal.returns-clause-entry
returns-clause-entry c = length-entry_bytes
