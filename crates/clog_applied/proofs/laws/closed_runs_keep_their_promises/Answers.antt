use Rattle.clog_applied.proofs.Limits.{flush_limit}
use Rattle.clog_applied.proofs.Logs.{log_holds}
use Rattle.clog_applied.proofs.Merged.{merge_kept}
use Rattle.clog_applied.proofs.Ordered.{nothing_early, table_files}
use Rattle.clog_applied.proofs.Whole.{with_report}
use Rattle.clog_applied.proofs.laws.closed_runs_keep_their_promises.Goals as goal

pub returns-clause-merge_is_kept : goal.returns-clause-merge_is_kept
returns-clause-merge_is_kept c = merge_kept

pub returns-clause-log_holds_each_line_once : goal.returns-clause-log_holds_each_line_once
returns-clause-log_holds_each_line_once c = log_holds

pub returns-clause-table_files_are_true : goal.returns-clause-table_files_are_true
returns-clause-table_files_are_true c = table_files

pub returns-clause-nothing_goes_early : goal.returns-clause-nothing_goes_early
returns-clause-nothing_goes_early c = nothing_early

pub returns-clause-flush_limit_is_met : goal.returns-clause-flush_limit_is_met
returns-clause-flush_limit_is_met c = flush_limit

pub returns-clause-all_with_its_report : goal.returns-clause-all_with_its_report
returns-clause-all_with_its_report c = with_report
