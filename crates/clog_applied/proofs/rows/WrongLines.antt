-- Runs whose appends, lines, files or receipts are wrong.
use Rattle.std.proofs.Common.{
  ◌≡◌,
  ℕ,
  ◌+◌,
  ◌≤◌,
  inr,
  List,
  [],
  ◌∷◌,
  ◌++◌,
  length,
  map,
  codes,
  false,
  refl,
  sym,
  ◌∙◌,
  ap,
  subst,
  arith,
}
use Rattle.std.specs.Prelude.{Bool, Contains, decimal}
use Rattle.std.specs.List.{filter, flat_map}
use Rattle.std.proofs.lemmas.Bool.Decides.{nat_tests}
use Rattle.std.proofs.lemmas.Fmt.{decimal_injective}
use Rattle.std.proofs.lemmas.List.{append-nil, append_cancel_left, append_cancel_right, length-map}
use Rattle.std.proofs.lemmas.List.Sums.{count_by-le-length, length-filter}
use Rattle.sync_core.specs.declared.SyncCore.TheVariants.{Periodic}
use Rattle.clog_base.proofs.Members.{here, in_map, only_one}
use Rattle.clog_disk.specs.declared.change.Change.{Change}
use Rattle.clog_disk.specs.Files.{Files, no_files}
use Rattle.clog_scan.specs.declared.answer.End.TheVariants.{Clean}
use Rattle.clog_scan.specs.Laws.{IsFile}
use Rattle.clog_scan.specs.Segment.{Entry, IsSegment}
use Rattle.clog_scan.proofs.Theorems.{one_segment}
use Rattle.clog_crash.specs.Folder.{IsHeld}
use Rattle.clog_crash.specs.Grown.{Append, appends_of, grown}
use Rattle.clog_crash.specs.Worked.{logged, the_mutation, the_segment}
use Rattle.clog_crash.proofs.counts.Growing.{grown_here}
use Rattle.clog_crash.proofs.worked.Files.{held, is_segment_file, the_entry}
use Rattle.clog_applied.specs.Appended.{IsAppended, entries_in, is_in, segments_of}
use Rattle.clog_applied.specs.Applied.{IsAppliedRun}
use Rattle.clog_applied.specs.Early.{NothingGoesEarly}
use Rattle.clog_applied.specs.Filed.{IsTrueFor}
use Rattle.clog_applied.specs.History.{
  HoldsShares,
  Line,
  LoggedLine,
  entry_of,
  is_line,
  line_of,
}
use Rattle.clog_applied.specs.Printed.{applied_line, line, number_of, receipt_line, receipt_of}
use Rattle.clog_applied.specs.Worked.{
  asked,
  both_bytes,
  both_changes,
  file_to,
  goes_in,
  line_at,
  log_name,
  one_line,
  one_logged,
  the_end,
  two_lines,
}
use Rattle.clog_applied.specs.WorkedWrong.{
  by_the_other,
  out_of_order,
  start_told,
  three_lines,
  without_cell,
}
use Rattle.clog_applied.proofs.Lists.{all_counted}
use Rattle.clog_applied.proofs.Merged.{its_entry}
use Rattle.clog_applied.proofs.rows.Bytes.{both_file, both_held}
use Rattle.clog_applied.proofs.rows.Drained.{droppable}
use Rattle.clog_applied.proofs.rows.Wrong.{is_the_one, the_one_is}

-- ---- what is logged is what was appended to the one segment

module _ (changes : List Change) (bytes : List ℕ)
    (alone : appends_of changes ≡ (log_name, bytes) ∷ []) (file : IsFile bytes)
    (entries : List Entry) (holds : IsSegment bytes 1000 entries (Clean (length bytes)))
    (ids : List ℕ) (history : List LoggedLine) (is : IsAppended changes ids history) where
  abbrev its : ℕ × List Entry
  its = (1000, entries_in 1000 history)

  grows : grown (appends_of changes) log_name ≡ bytes
  grows =
      ap (λ (as_is : List Append). grown as_is log_name) alone ∙ grown_here log_name bytes []
      ∙ append-nil bytes

  pub entries_are : entries_in 1000 history ≡ entries
  entries_are =
      let listed : Contains (segments_of ids history) its =
      in_map (λ (i : ℕ). (i, entries_in i history)) ids 1000
      (the_one_is bytes changes alone ids history is) in
      let has = subst (λ (b : List ℕ). IsSegment b 1000 (entries_in 1000 history)
      (Clean (length b))) grows (is.kept.each its listed).1 in
      (one_segment bytes 1000 (entries_in 1000 history) (Clean (length bytes)) entries
      (Clean (length bytes)) file (omega arith) has holds).entries_are

-- where one line is logged, the history has one entry
one_entry_alone : (history : List LoggedLine) → HoldsShares 1 one_line history → length history ≤ 1
one_entry_alone history shares =
    let once = shares.once 1 (omega arith) (omega arith) in
    let only : Line = record { number = 1; mutation = the_mutation } in
    let all = all_counted (is_line 1) history (λ w h.
    let same = ap (λ (l : Line). l.number) (only_one only (line_of w) (shares.no_other w h)) in
    grind (arith, nat_tests, same)) in
    omega (arith, once, all)

few_entries : (id : ℕ) (history : List LoggedLine)
    → length (entries_in id history) ≤ length history
few_entries id history =
    let one : length (entries_in id history) ≡ length (filter (is_in id) history) =
    length-map (filter (is_in id) history) entry_of in
    let two = length-filter (is_in id) history in
    let three = count_by-le-length (is_in id) history in
    omega (arith, one, two, three)

-- ---- a line whose entry is appended twice

pub not_appended_twice : (after : Files) (report : List ℕ)
    → ¬ IsAppliedRun (asked (Periodic 10000) false) no_files after both_changes one_line report
not_appended_twice after report run =
    let log = run.log_holds_each_line_once in
    let two = ap length (entries_are both_changes both_bytes refl both_file _ both_held run.ids
    run.history log.is_appended) in
    let few = few_entries 1000 run.history in
    let one = one_entry_alone run.history log.shares in
    omega (arith, two, few, one)

-- ---- a segment that may go, and is left

pub not_left : (archive drain : Bool) (after : Files) (changes : List Change)
    → IsHeld after log_name → ¬ NothingGoesEarly archive drain no_files after changes
    (1000 ∷ []) one_logged (file_to the_end ∷ [])
not_left archive drain after changes there early =
    early.gone 1000 (here 1000 []) there droppable

-- ---- lines out of order, or by the other writer

abbrev first_number : List Line → ℕ
first_number [] = 0
first_number (l ∷ ls) = l.number

pub not_out_of_order : ¬ HoldsShares 2 three_lines out_of_order
not_out_of_order shares =
    let number : 3 ≡ 1 = ap first_number (shares.shares 1 (omega arith)) in omega (arith, number)

pub not_by_the_other : ¬ HoldsShares 2 two_lines by_the_other
not_by_the_other shares =
    let number : 1 ≡ 2 = ap first_number (shares.shares 0 (omega arith)) in omega (arith, number)

-- ---- a table file that lacks a cell

pub not_without_cell : ¬ IsTrueFor one_logged without_cell
not_without_cell merge =
    merge.newest logged.0 logged.1 (record {
      line = line_at 1 28;
      listed = here (line_at 1 28) [];
      inside = record { above = inr (refl, omega arith); up_to = inr (refl, omega arith) };
      cell = here logged [];
      same_table = refl;
    })

-- ---- a receipt of the entry's start

ends_apart : (front : List ℕ)
    → line (front ++ (32 ∷ decimal 28)) ≡ line (front ++ (32 ∷ decimal 60)) → ⊥
ends_apart front same =
    let told = append_cancel_right (front ++ (32 ∷ decimal 28)) (front ++ (32 ∷ decimal 60))
    (10 ∷ []) same in
    let behind = append_cancel_left front (32 ∷ decimal 28) (32 ∷ decimal 60) told in
    let ends = append_cancel_left (32 ∷ []) (decimal 28) (decimal 60) behind in
    let number = decimal_injective 28 60 (omega arith) (omega arith) ends in
    omega (arith, number)

-- the one receipt is of an entry that ends at 60
its_receipt : (logged : List LoggedLine) → map number_of logged ≡ 1 ∷ []
    → ((w : LoggedLine) → Contains logged w → (w.id ≡ 1000) × (w.end ≡ 60))
    → flat_map receipt_of logged ≡ receipt_line 1 1000 60
its_receipt [] numbers each = cc
its_receipt (w ∷ []) numbers each =
    let its = each w (here w []) in
    let number : w.number ≡ 1 = ap (λ (ns : List ℕ). head_of ns) numbers in
    append-nil (receipt_of w)
    ∙ (λ i. receipt_line (number i) (its.0 i) (its.1 i))
  where
    head_of : List ℕ → ℕ
    head_of [] = 0
    head_of (n ∷ ns) = n
its_receipt (w ∷ v ∷ more) numbers each = cc

pub not_start_told : (after : Files) → ¬ IsAppliedRun (asked (Periodic 10000) false) no_files after
    (goes_in ∷ []) one_line start_told
not_start_told after run =
    let log = run.log_holds_each_line_once in
    let printed = run.report_is_printed in
    let are = entries_are (goes_in ∷ []) the_segment refl is_segment_file (the_entry ∷ []) held
    run.ids run.history log.is_appended in
    let r = printed.receipts_are in
    let told : receipt_line 1 1000 28 ≡ printed.receipts ++ printed.rows =
    append_cancel_left (applied_line 1) (receipt_line 1 1000 28)
    (printed.receipts ++ printed.rows) printed.text in
    let its = its_receipt r.0 r.1.numbers (λ w h.
    let listed = r.1.each w h in
    let there = is_the_one the_segment (goes_in ∷ []) refl run.ids run.history log.is_appended
    w.id (log.is_appended.no_other w listed) in
    let found = subst (λ (es : List Entry). Contains es (entry_of w)) are
    (subst (λ (i : ℕ). Contains (entries_in i run.history) (entry_of w)) there
    (its_entry run.history w listed)) in
    (there, sym (ap (λ (e : Entry). e.end) (only_one the_entry (entry_of w) found)))) in
    ends_apart (codes "receipt " ++ decimal 1 ++ (32 ∷ decimal 1000))
    (told ∙ ap (λ (l : List ℕ). printed.receipts ++ l) printed.rows_are
    ∙ append-nil printed.receipts ∙ r.2 ∙ its)
