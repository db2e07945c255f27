-- A run whose lines writers were to log: what it answers, from what its steps answered.
use Rattle.std.proofs.Common.{◌≡◌, ℕ, List, [], ◌∷◌, ◌++◌, length, map, Bool, true, false, Result}
use Rattle.std.proofs.Common.{Ok as ok, Err as err, inr, refl, sym, ap, subst, ◌∙◌, append-nil}
use Rattle.std.specs.Prelude.{Contains, IfOk, IfSome}
use Rattle.std.specs.Global.{Vec}
use Rattle.std.specs.List.{flat_map}
use Rattle.clog_base.specs.declared.cell.Cell.{Cell}
use Rattle.clog_base.specs.declared.cell.CellKey.{CellKey}
use Rattle.clog_base.specs.declared.sizes.Sizes.{Sizes}
use Rattle.clog_cells.specs.Merge.{AreInOrder}
use Rattle.clog_cells.proofs.Merging.{joins, of_itself}
use Rattle.clog_disk.specs.declared.change.Change.{Change}
use Rattle.clog_disk.specs.Files.{Files, SameTold, Told}
use Rattle.clog_mutation.specs.declared.mutation.Mutation.{Mutation}
use Rattle.clog_mutation.specs.Payload.{cells_of}
use Rattle.clog_words.specs.declared.request.ApplyOptions.{ApplyOptions}
use Rattle.clog_crash.specs.Restore.{IsRestored}
use Rattle.clog_segments.specs.Opened.{CanBeOpened, IsOpened}
use Rattle.clog_applied.specs.Filed.{KeepsOthers}
use Rattle.clog_applied.specs.History.{LoggedLine}
use Rattle.clog_applied.specs.Opening.{IsRecoveryChange}
use Rattle.clog_applied.specs.Printed.{AreByLine, AreReceipts, applied_line, receipt_of}
use Rattle.clog_applied.proofs.Merged.{merge_kept}
use Rattle.clog_applied.proofs.Whole.{with_report}
use Rattle.write_path.specs.declared.commit.Receipt.{Receipt}
use Rattle.clog_shares.specs.declared.fault.WriteFault.{WriteFault}
use Rattle.clog_shares.specs.declared.fault.WriteFault.TheVariants as fault
use Rattle.clog_writers.specs.Left.{least_of}
use Rattle.clog_writers.specs.Written.{HasShareCause, HasWrittenShares, AsksFor, line_receipt}
use Rattle.clog_engine.specs.declared.report.PendingReport.{PendingReport}
use Rattle.clog_engine.specs.declared.status.Status.{Status}
use Rattle.clog_engine.specs.declared.status.Status.TheVariants.{OutOfMemory}
use Rattle.clog_engine.specs.Logged.{AppliesLines, AreLogged, IsReported, IsRun, LastsFirst, Turns}
use Rattle.clog_engine.specs.Logged.{Wrote}
use Rattle.clog_engine.specs.Outside.{Outside}
use Rattle.clog_engine.specs.Planning.{IsCellsOf}
use Rattle.clog_engine.specs.Quiet.{IsRefusedBefore}
use Rattle.clog_engine.specs.Refusal.{IsToldAs}
use Rattle.clog_engine.specs.Report.{AreRowsOf, IsReport, head_with, receipts_told}
use Rattle.clog_engine.specs.Request.{AreSizesOf}
use Rattle.clog_engine.proofs.Closed.{closed, printed_by}

-- ---- the report

-- receipts in the order of the lines are those of the history
told_lines : (logged : List LoggedLine)
    → receipts_told (map line_receipt logged) ≡ flat_map receipt_of logged
told_lines [] = refl
told_lines (w ∷ ws) = ap (λ (l : List ℕ). receipt_of w ++ l) (told_lines ws)

receipts_text : (asked : Bool) (lines : ℕ) (history logged : List LoggedLine)
    (receipts : List Receipt) → AreByLine history lines logged
    → receipts ≡ map line_receipt logged → length receipts ≡ lines
    → (text : List ℕ) × AreReceipts asked history lines text
    × (head_with asked receipts ≡ applied_line lines ++ text)
receipts_text false lines history logged receipts by_line are long =
    ([], refl, ap applied_line long ∙ sym (append-nil (applied_line lines)))
receipts_text true lines history logged receipts by_line are long = (
  receipts_told receipts,
  (logged, by_line, ap receipts_told are ∙ told_lines logged),
  ap (λ (n : ℕ). applied_line n ++ receipts_told receipts) long,
)

-- the text of rows behind a head is a report of all cells
pub is_report : (dump : Bool) (head text report : List ℕ) (before cells : List (CellKey × Cell))
    (ms : List Mutation) → AreInOrder before → IsCellsOf dump ms cells
    → AreRowsOf dump before cells text → report ≡ head ++ text
    → IsReport dump head before ms report
is_report false head text report before cells ms ordered of rows is =
    is ∙ ap (λ (l : List ℕ). head ++ l) rows ∙ append-nil head
is_report true head text report before cells ms ordered of rows is = record {
  rows = rows.0;
  merge = joins before (flat_map cells_of ms) before cells rows.0 (of_itself before ordered)
      (of.merged refl) rows.1;
  text = is ∙ ap (λ (l : List ℕ). head ++ l) rows.2;
}

-- ---- the run

pub is_asked : (options : ApplyOptions) (sizes : Sizes) (archives : Bool)
    → AreSizesOf options sizes → archives ≡ options.archive
    → AsksFor options sizes options.sync options.flush_at archives options.drain
is_asked options sizes archives sizes_are archive = record {
  writers = sym sizes_are.writers;
  sync = refl;
  flush_is = refl;
  capacity = sym sizes_are.capacity;
  drain_is = refl;
  archive_is = sym archive;
}

-- A run that has opened a folder, and whose writers have logged its lines, with its report.
pub run_of_shares : (o : Outside) (options : ApplyOptions) (before opened after : Files)
    (recovery later : List Change) (ms : List Mutation) (receipts : List Receipt)
    (moment base : ℕ) (cells : List (CellKey × Cell)) (report : List ℕ) → o.tells moment
    → IsOpened before moment base opened
    → ((c : Change) → Contains recovery c → IsRecoveryChange before c)
    → HasWrittenShares options base opened after later ms receipts
    → length receipts ≡ length ms → (options.dump ≡ true → IsRestored before cells)
    → IsReport options.dump (head_with options.receipts receipts) cells ms report
    → IsRun o options ms report before after (recovery ++ later)
run_of_shares o options before opened after recovery later ms receipts moment base cells report
    tells is_opened changes w long restored is =
    let run = closed options before opened after recovery later ms moment base w.ids w.dropped
    w.history w.files is_opened changes w.path w.store w.apart in
    let all = recovery ++ later in
    let text = receipts_text options.receipts (length ms) w.history w.logged receipts w.by_line
    w.receipts_are long in
    let printed = printed_by options (head_with options.receipts receipts) text.0 w.history cells
    ms report before after text.1 text.2 (merge_kept options before after all ms run) restored is
    in
    record {
      closed = run;
      moment = moment;
      told = tells;
      opened = is_opened;
      begins = w.begins;
      reach = w.reach;
      names = w.names;
      printed = printed;
      kept = with_report options before after all ms report run printed;
    }

-- ---- what is answered

-- what is so at Ok is so of these receipts
pub ok_at : {R E : Type 0} (outcome : Result R E) (x : R) (P : R → Type 0) → outcome ≡ ok x
    → IfOk outcome P → P x
ok_at outcome x P is has = subst (λ r. IfOk r P) is has

module _ (options : ApplyOptions) (o : Outside) (ms : List Mutation)
    (told : SameTold o.files o.files_now) (wrote : Wrote o options ms)
    (others : IfSome o.files (λ before. Told o.files_now (KeepsOthers before)))
    (opened : IfSome o.files CanBeOpened) where
  logged : (least : ℕ) → LastsFirst o options ms least → AreLogged o options ms least
  logged least lasts = record {
    told = told;
    opened = opened;
    wrote = wrote;
    others = others;
    lasts = lasts;
  }

  failed : (result : Result (List ℕ) Status) → result ≡ err OutOfMemory
      → LastsFirst o options ms 0 → AppliesLines options ms o result
  failed result is lasts =
      subst (AppliesLines options ms o) (sym is) (inr (inr (logged 0 lasts)))

  -- by what was logged, and how it was told
  pub shares_applied : (pending : PendingReport) (outcome : Result (Vec Receipt) WriteFault)
      (result : Result (List ℕ) Status)
      → IsToldAs options.receipts pending outcome result
      → LastsFirst o options ms (least_of outcome ms)
      → HasShareCause o.disk_faults o.disk_faults_now outcome
      → ((receipts : Vec Receipt) (report : List ℕ) → outcome ≡ ok receipts
      → report ≡ head_with options.receipts receipts.items ++ pending.rows.items
      → IsReported options ms report × Turns o (IsRun o options ms report))
      → AppliesLines options ms o result
  shares_applied pending (ok receipts) result told_as lasts cause so =
      let report = head_with options.receipts receipts.items ++ pending.rows.items in
      let is = so receipts report refl refl in
      subst (AppliesLines options ms o) (sym told_as) (record {
        reported = is.0;
        logged = logged (length ms) lasts;
        run = is.1;
      })
  shares_applied pending (err (fault.Stopped at_open now)) result told_as lasts cause so =
      subst (AppliesLines options ms o) (sym told_as) (cause.3, inr (inr (logged 0 lasts)))
  shares_applied pending (err fault.OutOfMemory) result told_as lasts cause so =
      failed result told_as lasts
  shares_applied pending (err fault.Spent) result told_as lasts cause so =
      failed result told_as lasts

-- a run that comes so far has called the disk
pub shares_call : (receipts : Bool) (pending : PendingReport)
    (outcome : Result (Vec Receipt) WriteFault) (result : Result (List ℕ) Status)
    → IsToldAs receipts pending outcome result → IsRefusedBefore result → ⊥
shares_call receipts pending (ok told) result told_as before =
    subst IsRefusedBefore told_as before
shares_call receipts pending (err (fault.Stopped at_open now)) result told_as before =
    subst IsRefusedBefore told_as before
shares_call receipts pending (err fault.OutOfMemory) result told_as before =
    subst IsRefusedBefore told_as before
shares_call receipts pending (err fault.Spent) result told_as before =
    subst IsRefusedBefore told_as before
