use Rattle.clog_spec.proofs.Examples.{real_header, real_marker, greatest_header, greatest_marker}
use Rattle.clog_spec.proofs.segment_examples.Goals as goal

pub returns-clause-header : goal.returns-clause-header
returns-clause-header c = real_header

pub returns-clause-marker : goal.returns-clause-marker
returns-clause-marker c = real_marker

pub returns-clause-greatest_header : goal.returns-clause-greatest_header
returns-clause-greatest_header c = greatest_header

pub returns-clause-greatest_marker : goal.returns-clause-greatest_marker
returns-clause-greatest_marker c = greatest_marker
