use Rattle.clog_crash.proofs.counts.WorkedCounts.{merged_counts, skipped_counts}
use Rattle.clog_crash.proofs.counting.an_update_counts_as_merged_or_as_skipped.Goals as goal

pub returns-clause-skipped : goal.returns-clause-skipped
returns-clause-skipped c = skipped_counts

pub returns-clause-merged : goal.returns-clause-merged
returns-clause-merged c = merged_counts
