-- What an `apply` that ended well has done.
use Rattle.std.specs.Prelude.{◌↔◌, ℕ, List, length, Contains}
use Rattle.std.specs.List.{flat_map}
use Rattle.clog_base.specs.declared.cell.Cell.{Cell}
use Rattle.clog_base.specs.declared.cell.CellKey.{CellKey}
use Rattle.clog_cells.specs.Merge.{IsMergeOf}
use Rattle.clog_disk.specs.declared.change.Change.{Change}
use Rattle.clog_disk.specs.Files.{Files, bytes_at}
use Rattle.clog_mutation.specs.declared.mutation.Mutation.{Mutation}
use Rattle.clog_mutation.specs.Payload.{cells_of}
use Rattle.clog_table.specs.declared.table_file.TableFile.{TableFile}
use Rattle.clog_words.specs.declared.request.ApplyOptions.{ApplyOptions}
use Rattle.clog_crash.specs.Covering.{Either}
use Rattle.clog_crash.specs.Readings.{RestoresIn}
use Rattle.clog_crash.specs.Restore.{IsRestored, IsUndamaged}
use Rattle.clog_applied.specs.Asked.{flushes}
use Rattle.clog_applied.specs.Early.{NothingGoesEarly}
use Rattle.clog_applied.specs.Filed.{TableFilesAreTrue}
use Rattle.clog_applied.specs.Flushed.{FlushLimitIsMet}
use Rattle.clog_applied.specs.History.{LoggedLine}
use Rattle.clog_applied.specs.Log.{LogHoldsEachLineOnce}
use Rattle.clog_applied.specs.Printed.{ReportIsPrinted}

-- Rows are what the folder restores to now exactly where they are the merge of what it restored to
-- before with the lines' cells. No file is damaged.
pub record MergeIsKept (before after : Files) (mutations : List Mutation) : Type 0 where
  pub same : (rows : List (CellKey × Cell))
      → IsMergeOf (Either (RestoresIn (bytes_at before)) (Contains (flat_map cells_of mutations)))
      rows ↔ IsRestored after rows
  pub undamaged : IsUndamaged after

-- The lines are in the log once and in order, table files and the log restore to all of them, and
-- nothing went before something else held it. The changes are those of the run.
pub record IsAppliedRun (options : ApplyOptions) (before after : Files) (changes : List Change)
    (mutations : List Mutation) (report : List ℕ) : Type 0 where
  -- the ids of the run's segments, what was logged in them, where table files begin, and these
  pub ids : List ℕ
  pub history : List LoggedLine
  pub base : ℕ
  pub files : List TableFile
  pub merge_is_kept : MergeIsKept before after mutations
  pub report_is_printed : ReportIsPrinted options after (length mutations) history report
  pub log_holds_each_line_once :
      LogHoldsEachLineOnce options before after changes mutations ids history
  pub table_files_are_true :
      TableFilesAreTrue (flushes options) before after base ids history files
  pub flush_limit_is_met : FlushLimitIsMet options base mutations history files
  pub nothing_goes_early :
      NothingGoesEarly options.archive options.drain before after changes ids history files
