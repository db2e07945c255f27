-- A run whose lines were written: its path is closed, and its report is printed right.
use Rattle.std.proofs.Common.{
  ◌≡◌,
  ℕ,
  List,
  [],
  ◌++◌,
  length,
  Bool,
  true,
  false,
  refl,
  sym,
  ap,
  ◌∙◌,
  append_assoc,
}
use Rattle.std.specs.Prelude.{Contains}
use Rattle.std.specs.List.{flat_map}
use Rattle.std.proofs.lemmas.List.{append-nil}
use Rattle.clog_base.specs.declared.cell.Cell.{Cell}
use Rattle.clog_base.specs.declared.cell.CellKey.{CellKey}
use Rattle.clog_cells.specs.Merge.{IsMerge}
use Rattle.clog_disk.specs.declared.change.Change.{Change}
use Rattle.clog_disk.specs.Files.{Files, bytes_at}
use Rattle.clog_mutation.specs.declared.mutation.Mutation.{Mutation}
use Rattle.clog_mutation.specs.Payload.{cells_of}
use Rattle.clog_table.specs.declared.table_file.TableFile.{TableFile}
use Rattle.clog_text.specs.CellTexts.{row_line}
use Rattle.clog_words.specs.declared.request.ApplyOptions.{ApplyOptions}
use Rattle.clog_crash.specs.Readings.{RestoresIn}
use Rattle.clog_crash.specs.Restore.{IsRestored}
use Rattle.clog_crash.proofs.changes.BothWays.{rows_are}
use Rattle.clog_crash.proofs.changes.Covering.{merge_of_more}
use Rattle.clog_segments.specs.Opened.{IsOpened}
use Rattle.clog_applied.specs.Applied.{MergeIsKept}
use Rattle.clog_applied.specs.Asked.{IsBatch}
use Rattle.clog_applied.specs.Closed.{ClosedRun, IsClosedPath, IsStoreLeft}
use Rattle.clog_applied.specs.History.{LoggedLine}
use Rattle.clog_applied.specs.Log.{AreSyncedApart}
use Rattle.clog_applied.specs.Opening.{IsRecoveryChange}
use Rattle.clog_applied.specs.Printed.{AreReceipts, AreRows, ReportIsPrinted, applied_line}
use Rattle.clog_closing.proofs.Openings.{is_opening}
use Rattle.clog_engine.specs.Report.{IsReport}

-- ---- the report

-- where the merge is kept, the cells of before with the lines' cells are what is restored now
rows_restored : (before after : Files) (ms : List Mutation) (cells rows : List (CellKey × Cell))
    → MergeIsKept before after ms → IsRestored before cells
    → IsMerge (cells ++ flat_map cells_of ms) rows → IsRestored after rows
rows_restored before after ms cells rows kept restored merge =
    (kept.same rows).0 (merge_of_more (RestoresIn (bytes_at before)) cells (flat_map cells_of ms)
    rows ((rows_are before cells).0 restored) merge)

rows_text : (dump : Bool) (head report : List ℕ) (cells : List (CellKey × Cell))
    (ms : List Mutation) (before after : Files) → MergeIsKept before after ms
    → (dump ≡ true → IsRestored before cells) → IsReport dump head cells ms report
    → (text : List ℕ) × AreRows dump after text × (report ≡ head ++ text)
rows_text false head report cells ms before after kept restored is =
    ([], refl, is ∙ sym (append-nil head))
rows_text true head report cells ms before after kept restored is = (
  flat_map row_line is.rows,
  (is.rows, rows_restored before after ms cells is.rows kept (restored refl) is.merge, refl),
  is.text,
)

-- behind a head with these receipts
pub printed_by : (options : ApplyOptions) (head receipts : List ℕ) (history : List LoggedLine)
    (cells : List (CellKey × Cell)) (ms : List Mutation) (report : List ℕ) (before after : Files)
    → AreReceipts options.receipts history (length ms) receipts
    → head ≡ applied_line (length ms) ++ receipts → MergeIsKept before after ms
    → (options.dump ≡ true → IsRestored before cells) → IsReport options.dump head cells ms report
    → ReportIsPrinted options after (length ms) history report
printed_by options head receipts history cells ms report before after are head_is kept restored is =
    let rows = rows_text options.dump head report cells ms before after kept restored is in
    record {
      receipts = receipts;
      rows = rows.0;
      receipts_are = are;
      rows_are = rows.1;
      text = rows.2 ∙ ap (λ (h : List ℕ). h ++ rows.0) head_is
          ∙ append_assoc (applied_line (length ms)) receipts rows.0;
    }

-- ---- the run

abbrev pub closed : (options : ApplyOptions) (before opened after : Files)
    (recovery later : List Change) (ms : List Mutation) (moment base : ℕ) (ids dropped : List ℕ)
    (history : List LoggedLine) (files : List TableFile) → IsOpened before moment base opened
    → ((c : Change) → Contains recovery c → IsRecoveryChange before c)
    → IsClosedPath options ms base history files
    → IsStoreLeft options.archive opened after later ids dropped history files
    → (IsBatch options → AreSyncedApart later history)
    → ClosedRun options before after (recovery ++ later) ms
closed options before opened after recovery later ms moment base ids dropped history files
    is_opened changes path store apart = record {
      base = base;
      opened = opened;
      recovery = recovery;
      later = later;
      ids = ids;
      dropped = dropped;
      history = history;
      files = files;
      parts = refl;
      opening = is_opening before opened moment base recovery is_opened changes;
      path = path;
      store = store;
      apart = apart;
    }
