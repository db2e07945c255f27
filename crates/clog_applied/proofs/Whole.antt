-- All that a run promises, from a closed run and its report.
use Rattle.std.specs.Prelude.{ℕ, List, length}
use Rattle.clog_disk.specs.declared.change.Change.{Change}
use Rattle.clog_disk.specs.Files.{Files}
use Rattle.clog_mutation.specs.declared.mutation.Mutation.{Mutation}
use Rattle.clog_words.specs.declared.request.ApplyOptions.{ApplyOptions}
use Rattle.clog_applied.specs.Applied.{IsAppliedRun}
use Rattle.clog_applied.specs.Closed.{ClosedRun}
use Rattle.clog_applied.specs.Printed.{ReportIsPrinted}
use Rattle.clog_applied.proofs.Limits.{flush_limit}
use Rattle.clog_applied.proofs.Logs.{log_holds}
use Rattle.clog_applied.proofs.Merged.{merge_kept}
use Rattle.clog_applied.proofs.Ordered.{nothing_early, table_files}

pub with_report : (o : ApplyOptions) (before after : Files) (changes : List Change)
    (mutations : List Mutation) (report : List ℕ)
    → (run : ClosedRun o before after changes mutations)
    → ReportIsPrinted o after (length mutations) run.history report
    → IsAppliedRun o before after changes mutations report
with_report o before after changes mutations report run printed = record {
  ids = run.ids;
  history = run.history;
  base = run.base;
  files = run.files;
  merge_is_kept = merge_kept o before after changes mutations run;
  report_is_printed = printed;
  log_holds_each_line_once = log_holds o before after changes mutations run;
  table_files_are_true = table_files o before after changes mutations run;
  flush_limit_is_met = flush_limit o before after changes mutations run;
  nothing_goes_early = nothing_early o before after changes mutations run;
}
