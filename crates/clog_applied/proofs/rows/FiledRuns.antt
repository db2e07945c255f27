-- Runs of one line that end with its table file, whose segment goes: drained, with an archive, or
-- flushed at one update.
use Rattle.std.proofs.Common.{
  ◌≡◌,
  ℕ,
  ◌<◌,
  ◌≤◌,
  inr,
  Bool,
  List,
  [],
  ◌∷◌,
  ◌++◌,
  true,
  false,
  Some,
  None,
  refl,
  sym,
  ◌∙◌,
  ap,
  subst,
  arith,
}
use Rattle.std.specs.Prelude.{Contains}
use Rattle.std.specs.List.{filter}
use Rattle.clog_base.proofs.Members.{here}
use Rattle.std.proofs.lemmas.List.{append-nil}
use Rattle.sync_core.specs.declared.SyncCore.TheVariants.{Batch, Periodic}
use Rattle.clog_disk.specs.declared.change.Change.{Change}
use Rattle.clog_disk.specs.Files.{Files, no_files}
use Rattle.clog_base.specs.declared.cell.Table.{Table}
use Rattle.clog_words.specs.declared.request.ApplyOptions.{ApplyOptions}
use Rattle.clog_crash.specs.Droppable.{IsFiled, Touches}
use Rattle.clog_crash.proofs.OneMore.{some_is}
use Rattle.clog_applied.specs.Applied.{IsAppliedRun}
use Rattle.clog_applied.specs.Asked.{capacity_of, flushes}
use Rattle.clog_applied.specs.Closed.{HasFlushed, IsClosedPath, IsStoreLeft}
use Rattle.clog_applied.specs.Filed.{FollowFrom, HoldsSome, IsTrueFor, first_of}
use Rattle.clog_applied.specs.History.{
  IsBefore,
  IsLawful,
  IsPlaced,
  LoggedLine,
  entry_of,
  is_by,
  logged_at,
  share_of,
  written_by,
}
use Rattle.clog_applied.specs.Printed.{
  AreReceipts,
  AreRows,
  ReportIsPrinted,
  applied_line,
  receipt_line,
}
use Rattle.clog_applied.specs.Worked.{
  archived_changes,
  asked,
  asked_to_archive,
  drained_changes,
  line_at,
  one_line,
  one_logged,
  report_of_one,
  with_file,
}
use Rattle.clog_applied.specs.WorkedRuns.{asked_to_flush, with_archive}
use Rattle.clog_applied.proofs.Whole.{with_report}
use Rattle.clog_applied.proofs.rows.ArchivedRun.{store_archived}
use Rattle.clog_applied.proofs.rows.Drained.{
  f,
  filed_so,
  inside,
  is_true,
  its_table,
  of_each,
  store_went,
}
use Rattle.clog_applied.proofs.rows.Empty.{all_of_one, one_apart, opened_empty}
use Rattle.clog_applied.proofs.rows.Synced.{placed_at, touches_first}

-- the line's entry lies in the file of each table that it touches
its_filed : (table : Table) (w : LoggedLine) → Contains one_logged w → Touches (entry_of w) table
    → IsFiled (f ∷ []) table (logged_at w)
its_filed table =
    all_of_one (λ (w : LoggedLine). Touches (entry_of w) table
    → IsFiled (f ∷ []) table (logged_at w)) (line_at 1 28)
    (λ touches. filed_so table (its_table table touches) 60 (omega arith) (omega arith))

its_lawful : IsLawful 33554432 one_logged
its_lawful = record {
  each = all_of_one (IsPlaced 33554432) (line_at 1 28)
      (placed_at 1 28 (omega arith) (omega arith));
  apart = one_apart IsBefore (line_at 1 28);
}

its_share : (writers : ℕ) → writers ≡ 1 → (writer : ℕ) → writer < writers
    → written_by writer one_logged ≡ share_of writers writer one_line
its_share writers one writer few =
    let none : writer ≡ 0 = omega (arith, few, one) in
    subst (λ (n : ℕ). written_by writer one_logged ≡ share_of n writer one_line) (sym one)
    (subst (λ (v : ℕ). written_by v one_logged ≡ share_of 1 v one_line) (sym none) refl)

-- the writer has flushed, of each table
its_flushed : (most : ℕ) → 0 < most → (table : Table) (writer : ℕ) → writer < 1
    → HasFlushed most table writer one_logged (f ∷ [])
its_flushed most positive table writer few = record {
  front = one_logged;
  rest = [];
  parts = subst (λ (v : ℕ). filter (is_by v) one_logged ≡ one_logged ++ [])
      (let none : writer ≡ 0 = omega (arith, few) in sym none) refl;
  filed = λ w h touches. its_filed table w h touches;
  few = positive;
}

module _ (options : ApplyOptions) (one : options.writers ≡ 1)
    (size : capacity_of options ≡ 33554432) (some : flushes options ≡ true)
    (periodic : options.sync ≡ Periodic 10000)
    (positive : (most : ℕ) → options.flush_at ≡ Some most → 0 < most)
    (receipts : options.receipts ≡ true) (no_dump : options.dump ≡ false) where
  path_filed : IsClosedPath options one_line 1000 one_logged (f ∷ [])
  path_filed = record {
    lawful = subst (λ (n : ℕ). IsLawful n one_logged) (sym size) its_lawful;
    from_base = all_of_one (λ (w : LoggedLine). 1000 ≤ w.id) (line_at 1 28) (omega arith);
    writers = omega (arith, one);
    known = all_of_one (λ (w : LoggedLine). w.writer < options.writers) (line_at 1 28)
        (omega (arith, one));
    shares = its_share options.writers one;
    follow = of_each (FollowFrom (first_of 1000)) (refl, inr (refl, omega arith), tt) tt;
    are_true = all_of_one (IsTrueFor one_logged) f is_true;
    for_some = all_of_one (HoldsSome one_logged) f (record {
      line = line_at 1 28;
      listed = here (line_at 1 28) [];
      touches = touches_first 1 28;
      inside = inside 60 (omega arith) (omega arith);
    });
    drained = λ drain table w h touches. its_filed table w h touches;
    none = λ e. absurd (let clash : true ≡ false = sym some ∙ e in cc);
    flushed = λ most e table writer few.
        its_flushed most (positive most e) table writer (omega (arith, few, one));
  }

  printed_one : (after : Files) → ReportIsPrinted options after 1 one_logged report_of_one
  printed_one after =
      let its = receipt_line 1 1000 60 in
      record {
        receipts = its ++ [];
        rows = [];
        receipts_are = subst (λ (b : Bool). AreReceipts b one_logged 1 (its ++ [])) (sym receipts)
            (one_logged, record { numbers = refl; each = λ w h. h }, refl);
        rows_are = subst (λ (b : Bool). AreRows b after []) (sym no_dump) refl;
        text = ap (λ (l : List ℕ). applied_line 1 ++ l)
            (sym (append-nil its) ∙ sym (append-nil (its ++ [])));
      }

  applied_filed : (after : Files) (changes : List Change)
      → IsStoreLeft options.archive no_files after changes (1000 ∷ []) (1000 ∷ []) one_logged
      (f ∷ []) → IsAppliedRun options no_files after changes one_line report_of_one
  applied_filed after changes store =
      with_report options no_files after changes one_line report_of_one (record {
        base = 1000;
        opened = no_files;
        recovery = [];
        later = changes;
        ids = 1000 ∷ [];
        dropped = 1000 ∷ [];
        history = one_logged;
        files = f ∷ [];
        parts = refl;
        opening = opened_empty;
        path = path_filed;
        store = store;
        apart = λ e. absurd (let clash : Periodic 10000 ≡ Batch = sym periodic ∙ e in cc);
      }) (printed_one after)

no_limit : (most : ℕ) → None ≡ Some most → 0 < most
no_limit most e = absurd (let clash : None ≡ Some most = e in cc)

pub drained_applied : IsAppliedRun (asked (Periodic 10000) true) no_files with_file
    drained_changes one_line report_of_one
drained_applied =
    applied_filed (asked (Periodic 10000) true) refl refl refl refl no_limit refl refl with_file
    drained_changes store_went

pub archived_applied : IsAppliedRun asked_to_archive no_files with_archive archived_changes one_line
    report_of_one
archived_applied =
    applied_filed asked_to_archive refl refl refl refl no_limit refl refl with_archive
    archived_changes store_archived

pub flushed_applied : IsAppliedRun asked_to_flush no_files with_file drained_changes one_line
    report_of_one
flushed_applied =
    applied_filed asked_to_flush refl refl refl refl
    (λ most e. let is = some_is 1 most e in omega (arith, is)) refl refl with_file drained_changes
    store_went
