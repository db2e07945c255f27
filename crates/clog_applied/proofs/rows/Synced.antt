-- Two lines are logged, with a sync of each or with one at the end; no table file comes.
use Rattle.std.proofs.Common.{
  ◌≡◌,
  ℕ,
  ◌+◌,
  ◌<◌,
  ◌≤◌,
  inl,
  inr,
  List,
  [],
  ◌∷◌,
  ◌++◌,
  false,
  Option,
  Some,
  None,
  codes,
  refl,
  sym,
  ◌∙◌,
  ap,
  subst,
  arith,
}
use Rattle.std.specs.Prelude.{Contains}
use Rattle.std.specs.FinMap as finmap
use Rattle.std.specs.FinMap.{get-empty}
use Rattle.std.specs.Cmp.Lexicographic.{slice_cmp}
use Rattle.std.specs.Ordering.{nat_cmp}
use Rattle.std.proofs.lemmas.List.{append-nil}
use Rattle.sync_core.specs.declared.SyncCore.{SyncCore}
use Rattle.sync_core.specs.declared.SyncCore.TheVariants.{Batch, Periodic}
use Rattle.clog_spec.specs.Names.{archive_name_of, segment_name_of}
use Rattle.clog_base.proofs.Members.{further, here}
use Rattle.clog_disk.specs.declared.change.Change.{Change}
use Rattle.clog_disk.specs.declared.change.Change.TheVariants as change
use Rattle.clog_disk.specs.Files.{no_files}
use Rattle.clog_disk.proofs.Named.{put_here, put_there, same_or_other}
use Rattle.clog_mutation.specs.declared.mutation.Update.{Update}
use Rattle.clog_mutation.specs.Stored.{IsStored}
use Rattle.clog_scan.specs.Laws.{IsFile}
use Rattle.clog_crash.specs.Droppable.{Touches}
use Rattle.clog_crash.specs.Grown.{Append}
use Rattle.clog_crash.specs.Worked.{a_deletion, first_table, the_mutation}
use Rattle.clog_crash.proofs.counts.Growing.{grown_here}
use Rattle.clog_crash.proofs.worked.Files.{stored}
use Rattle.clog_applied.specs.Appended.{IsAppended, appended}
use Rattle.clog_applied.specs.Applied.{IsAppliedRun}
use Rattle.clog_applied.specs.Closed.{IsStoreLeft}
use Rattle.clog_applied.specs.History.{
  IsBefore,
  IsLawful,
  IsPlaced,
  LoggedLine,
  entry_of,
  share_of,
  written_by,
}
use Rattle.clog_applied.specs.Log.{AreSyncedApart, HasMarkBetween}
use Rattle.clog_applied.specs.Printed.{ReportIsPrinted, applied_line, receipt_line}
use Rattle.clog_applied.specs.Worked.{
  asked,
  both_bytes,
  both_changes,
  both_logged,
  each_changes,
  each_logged,
  first_bytes,
  line_at,
  log_name,
  report_of_two,
  second_bytes,
  two_lines,
  with_log,
}
use Rattle.clog_applied.proofs.Whole.{with_report}
use Rattle.clog_applied.proofs.rows.Bytes.{
  both_file,
  both_held,
  each_bytes,
  each_file,
  each_front,
  each_held,
  each_sections,
}
use Rattle.clog_applied.proofs.rows.Plain.{IsAppendTo, path_plain, store_plain}
use Rattle.clog_applied.proofs.rows.Empty.{
  all_of_one,
  all_of_two,
  one_appended,
  opened_empty,
  two_apart,
}

-- ---- the worked line

pub placed_at : (number start : ℕ) → 28 ≤ start → start ≤ 1000
    → IsPlaced 33554432 (line_at number start)
placed_at number start front low = record {
  behind_front = front;
  long = omega arith;
  inside = omega (arith, low);
  stored = stored;
}

abbrev pub the_update : Update
the_update = record { table = first_table; column = codes "cd"; cell = a_deletion }

pub touches_first : (number start : ℕ) → Touches (entry_of (line_at number start)) first_table
touches_first number start = record {
  mutation = the_mutation;
  said = record { stored = stored; spelled = refl };
  update = the_update;
  listed = here the_update [];
  same_table = refl;
}

-- ---- the worked segment stays, and nothing else is there

pub not_none : (o : Option (List ℕ)) (bytes : List ℕ) → o ≡ None → o ≡ Some bytes → ⊥
not_none o bytes none some = let clash : None ≡ Some bytes = sym none ∙ some in cc

module _ (changes : List Change) (history : List LoggedLine) (bytes : List ℕ)
    (is_appended : IsAppended changes (1000 ∷ []) history)
    (grows : appended changes 1000 ≡ bytes) (file : IsFile bytes)
    (number start : ℕ) (first : Contains history (line_at number start))
    (can : (w : LoggedLine) → Contains history w → IsStored w.mutation)
    (all : (c : Change) → Contains changes c → IsAppendTo c) where
  pub store_stays : IsStoreLeft false no_files (with_log bytes) changes (1000 ∷ []) [] history []
  store_stays = store_plain no_files (with_log bytes) changes (1000 ∷ []) history
      opened_empty.no_segment (λ id h. get-empty (slice_cmp nat_cmp) (archive_name_of id))
      is_appended
      (all_of_one (λ (id : ℕ). IsFile (appended changes id)) 1000 (subst IsFile (sym grows) file))
      (all_of_one (λ (id : ℕ). (w : LoggedLine) × Contains history w × (w.id ≡ id)) 1000
      (line_at number start, first, refl))
      can all
      (all_of_one (λ (id : ℕ). finmap.get (with_log bytes) (segment_name_of 6 id)
      ≡ Some (appended changes id)) 1000
      (put_here no_files log_name bytes ∙ ap Some (sym grows)))
      (λ name. elim (same_or_other name log_name) [
        | inl same ↦ inl (record { id = 1000; listed = here 1000 []; named = same })
        | inr apart ↦ inr (put_there no_files log_name bytes name apart)
      ])

-- ---- runs

module _ (sync : SyncCore) (changes : List Change) (history : List LoggedLine) (bytes : List ℕ)
    (store : IsStoreLeft false no_files (with_log bytes) changes (1000 ∷ []) [] history [])
    (lawful : IsLawful 33554432 history)
    (there : (w : LoggedLine) → Contains history w → w.id ≡ 1000)
    (known : (w : LoggedLine) → Contains history w → w.writer < 1)
    (share : written_by 0 history ≡ share_of 1 0 two_lines)
    (apart : sync ≡ Batch → AreSyncedApart changes history) where
  applied_stays : (report : List ℕ)
      → ReportIsPrinted (asked sync false) (with_log bytes) 2 history report
      → IsAppliedRun (asked sync false) no_files (with_log bytes) changes two_lines report
  applied_stays report printed =
      with_report (asked sync false) no_files (with_log bytes) changes two_lines report (record {
        base = 1000;
        opened = no_files;
        recovery = [];
        later = changes;
        ids = 1000 ∷ [];
        dropped = [];
        history = history;
        files = [];
        parts = refl;
        opening = opened_empty;
        path = path_plain (asked sync false) two_lines 1000 history refl refl refl refl lawful
            (λ w h. let is = there w h in omega (arith, is)) known share;
        store = store;
        apart = apart;
      }) printed

-- two receipts, and no rows
two_printed : (sync : SyncCore) (bytes : List ℕ) (start : ℕ)
    → ReportIsPrinted (asked sync false) (with_log bytes) 2
    (line_at 1 28 ∷ line_at 2 start ∷ []) (report_of_two (start + 32))
two_printed sync bytes start =
    let one = receipt_line 1 1000 60 in
    let two = receipt_line 2 1000 (start + 32) in
    record {
      receipts = one ++ (two ++ []);
      rows = [];
      receipts_are = (
        line_at 1 28 ∷ line_at 2 start ∷ [],
        record { numbers = refl; each = λ w h. h },
        refl,
      );
      rows_are = refl;
      text = ap (λ (l : List ℕ). applied_line 2 ++ l)
          (ap (λ (l : List ℕ). one ++ l) (sym (append-nil two))
          ∙ sym (append-nil (one ++ (two ++ []))));
    }

-- ---- one sync for both

both_appended : IsAppended both_changes (1000 ∷ []) both_logged
both_appended =
    one_appended 1000 (omega arith) both_changes both_logged both_bytes both_bytes
    (grown_here log_name both_bytes [] ∙ append-nil both_bytes) both_held
    (here (log_name, both_bytes) [])
    (all_of_one (λ (a : Append). a.0 ≡ log_name) (log_name, both_bytes) refl)
    (all_of_two (λ (w : LoggedLine). w.id ≡ 1000) (line_at 1 28) (line_at 2 60) refl refl)

both_lawful : IsLawful 33554432 both_logged
both_lawful = record {
  each = all_of_two (IsPlaced 33554432) (line_at 1 28) (line_at 2 60)
      (placed_at 1 28 (omega arith) (omega arith)) (placed_at 2 60 (omega arith) (omega arith));
  apart = two_apart IsBefore (line_at 1 28) (line_at 2 60) (inr (refl, omega arith));
}

pub both_applied : IsAppliedRun (asked (Periodic 10000) false) no_files (with_log both_bytes)
    both_changes two_lines (report_of_two 92)
both_applied = applied_stays (Periodic 10000) both_changes both_logged both_bytes
    (store_stays both_changes both_logged both_bytes both_appended
    (grown_here log_name both_bytes [] ∙ append-nil both_bytes) both_file 1 28
    (here (line_at 1 28) (line_at 2 60 ∷ []))
    (all_of_two (λ (w : LoggedLine). IsStored w.mutation) (line_at 1 28) (line_at 2 60) stored
    stored)
    (all_of_one IsAppendTo (change.Append log_name both_bytes) (log_name, both_bytes, refl)))
    both_lawful
    (all_of_two (λ (w : LoggedLine). w.id ≡ 1000) (line_at 1 28) (line_at 2 60) refl refl)
    (all_of_two (λ (w : LoggedLine). w.writer < 1) (line_at 1 28) (line_at 2 60) (omega arith)
    (omega arith)) refl (λ e. absurd (let clash : Periodic 10000 ≡ Batch = e in cc))
    (report_of_two 92) (two_printed (Periodic 10000) both_bytes 60)

-- ---- a sync of each

each_grows : appended each_changes 1000 ≡ each_bytes
each_grows =
    grown_here log_name first_bytes ((log_name, second_bytes) ∷ [])
    ∙ ap (λ (l : List ℕ). first_bytes ++ l) (grown_here log_name second_bytes []
    ∙ append-nil second_bytes)

each_appended : IsAppended each_changes (1000 ∷ []) each_logged
each_appended =
    one_appended 1000 (omega arith) each_changes each_logged each_bytes first_bytes each_grows
    each_held
    (here (log_name, first_bytes) ((log_name, second_bytes) ∷ []))
    (all_of_two (λ (a : Append). a.0 ≡ log_name) (log_name, first_bytes)
    (log_name, second_bytes) refl refl)
    (all_of_two (λ (w : LoggedLine). w.id ≡ 1000) (line_at 1 28) (line_at 2 68) refl refl)

each_lawful : IsLawful 33554432 each_logged
each_lawful = record {
  each = all_of_two (IsPlaced 33554432) (line_at 1 28) (line_at 2 68)
      (placed_at 1 28 (omega arith) (omega arith)) (placed_at 2 68 (omega arith) (omega arith));
  apart = two_apart IsBefore (line_at 1 28) (line_at 2 68) (inr (refl, omega arith));
}

-- the marker at 60 stands between the two entries
each_between : HasMarkBetween (appended each_changes 1000) 1000 60 68
each_between =
    subst (λ (b : List ℕ). HasMarkBetween b 1000 60 68) (sym each_grows) (record {
      sections = each_sections;
      front = each_front;
      mark = 60;
      listed = further 20 (60 ∷ []) 60 (here 60 []);
      behind = omega arith;
      before = omega arith;
    })

each_apart : AreSyncedApart each_changes each_logged
each_apart a b ha hb same there behind =
    all_of_two (λ (x : LoggedLine). x.end ≤ b.start
    → HasMarkBetween (appended each_changes x.id) x.id x.end b.start) (line_at 1 28) (line_at 2 68)
    (all_of_two (λ (y : LoggedLine). 60 ≤ y.start
    → HasMarkBetween (appended each_changes 1000) 1000 60 y.start) (line_at 1 28) (line_at 2 68)
    (λ low. absurd (omega (arith, low))) (λ low. each_between) b hb)
    (all_of_two (λ (y : LoggedLine). 100 ≤ y.start
    → HasMarkBetween (appended each_changes 1000) 1000 100 y.start) (line_at 1 28) (line_at 2 68)
    (λ low. absurd (omega (arith, low))) (λ low. absurd (omega (arith, low))) b hb) a ha behind

pub each_applied : IsAppliedRun (asked Batch false) no_files (with_log each_bytes) each_changes
    two_lines (report_of_two 100)
each_applied = applied_stays Batch each_changes each_logged each_bytes
    (store_stays each_changes each_logged each_bytes each_appended each_grows each_file 1 28
    (here (line_at 1 28) (line_at 2 68 ∷ []))
    (all_of_two (λ (w : LoggedLine). IsStored w.mutation) (line_at 1 28) (line_at 2 68) stored
    stored)
    (all_of_two IsAppendTo (change.Append log_name first_bytes)
    (change.Append log_name second_bytes) (log_name, first_bytes, refl)
    (log_name, second_bytes, refl)))
    each_lawful
    (all_of_two (λ (w : LoggedLine). w.id ≡ 1000) (line_at 1 28) (line_at 2 68) refl refl)
    (all_of_two (λ (w : LoggedLine). w.writer < 1) (line_at 1 28) (line_at 2 68) (omega arith)
    (omega arith)) refl (λ e. each_apart) (report_of_two 100) (two_printed Batch each_bytes 68)
