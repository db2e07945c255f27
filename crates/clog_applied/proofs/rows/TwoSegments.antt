-- Two lines are logged into two segments: each entry is as long as half a segment.
use Rattle.std.proofs.Common.{
  ◌≡◌,
  ℕ,
  ◌+◌,
  ◌<◌,
  ◌≤◌,
  ◌^◌,
  inl,
  inr,
  List,
  [],
  ◌∷◌,
  ◌++◌,
  length,
  false,
  Some,
  refl,
  sym,
  ◌∙◌,
  ap,
  subst,
  arith,
}
use Rattle.std.specs.Prelude.{Contains}
use Rattle.std.specs.FinMap as finmap
use Rattle.std.specs.FinMap.{get-empty}
use Rattle.std.specs.Cmp.Lexicographic.{slice_cmp}
use Rattle.std.specs.List.Sorted.{IsStrictlySortedBy}
use Rattle.std.specs.Ordering.{nat_cmp}
use Rattle.std.proofs.lemmas.List.{append-nil, length-append}
use Rattle.sync_core.specs.declared.SyncCore.TheVariants.{Batch, Periodic}
use Rattle.clog_spec.specs.Crc.{IsBytes}
use Rattle.clog_spec.specs.Names.{archive_name_of, segment_name_of}
use Rattle.clog_spec.specs.Segment.{entry_bytes, header_bytes, marker_bytes}
use Rattle.clog_spec.proofs.Bytes.{append-IsBytes}
use Rattle.clog_spec.proofs.Lengths.{length-entry_bytes}
use Rattle.clog_spec.proofs.StoredBytes.{entry-IsBytes, header-IsBytes, marker-IsBytes}
use Rattle.clog_base.proofs.Members.{first_or_further, further, here, only_one}
use Rattle.clog_disk.specs.declared.change.Change.TheVariants as change
use Rattle.clog_disk.specs.Files.{no_files}
use Rattle.clog_disk.proofs.Named.{put_here, put_there, same_or_other}
use Rattle.clog_mutation.specs.declared.mutation.Mutation.{Mutation}
use Rattle.clog_mutation.specs.Payload.{payload_of}
use Rattle.clog_mutation.specs.Stored.{IsPayload, IsStored}
use Rattle.clog_scan.specs.Cut.{entries_bytes}
use Rattle.clog_scan.specs.Laws.{AreWhole, IsFile}
use Rattle.clog_scan.specs.Segment.{Entry, entry_from}
use Rattle.clog_crash.specs.Grown.{Append, GrownSegment, HasGrown, HoldsGrown, appends_of}
use Rattle.clog_crash.specs.Sections.{IsStored as CanHold}
use Rattle.clog_crash.proofs.Payloads.{of_payload}
use Rattle.clog_crash.proofs.changes.Names.{one_id}
use Rattle.clog_crash.proofs.counts.Growing.{grown_elsewhere, grown_here, grown_holds}
use Rattle.clog_crash.proofs.rest.Sectioned.{ends_at, is_file}
use Rattle.clog_applied.specs.Appended.{
  IsAppended,
  IsSegmentOf,
  appended,
  entries_in,
  segments_of,
}
use Rattle.clog_applied.specs.Applied.{IsAppliedRun}
use Rattle.clog_applied.specs.Closed.{IsStoreLeft}
use Rattle.clog_applied.specs.History.{IsBefore, IsLawful, IsPlaced, LoggedLine}
use Rattle.clog_applied.specs.Printed.{applied_line, receipt_line}
use Rattle.clog_applied.specs.Worked.{log_name, with_log}
use Rattle.clog_applied.specs.WorkedRuns.{
  asked_for_small,
  large_changes,
  large_lines,
  large_section,
  large_segment,
  next_name,
  report_of_large,
  with_both,
}
use Rattle.clog_applied.proofs.Whole.{with_report}
use Rattle.clog_applied.proofs.rows.Empty.{all_of_one, all_of_two, opened_empty, two_apart}
use Rattle.clog_applied.proofs.rows.Plain.{IsAppendTo, path_plain, store_plain}

apart : next_name ≡ log_name → ⊥
apart same =
    let ids : 1001 ≡ 1000 = one_id 1000 1001 (omega arith) (omega arith) same in
    omega (arith, ids)

both_in_order : IsStrictlySortedBy nat_cmp (1000 ∷ 1001 ∷ [])
unfolding IsStrictlySortedBy
both_in_order = ((refl, tt), (tt, tt))

module _ (m : Mutation) (can : IsStored m) (size : length (payload_of m) ≡ 2036) where
  abbrev p : List ℕ
  p = payload_of m

  -- ---- a segment

  long : length (entries_bytes (p ∷ [])) ≡ 2048
  long =
      let one = length-append (entry_bytes p) [] in
      let two = length-entry_bytes p in
      omega (arith, one, two, size)

  whole : AreWhole 2076 20 (large_section m ∷ [])
  whole = (
    record {
      behind = omega arith;
      within = omega arith;
      fits = omega (arith, long);
      least = (omega (arith, size), tt);
    },
    omega (arith, long),
    tt,
  )

  its_length : (id : ℕ) → length (large_segment id m) ≡ 2076
  its_length id = ends_at id 2076 (large_section m) [] whole

  can_hold : (id : ℕ) → id < 2 ^ 63 → CanHold id (large_section m ∷ [])
  can_hold id fits =
      let n = its_length id in
      record {
        fits = fits;
        short = omega (arith, n);
        bytes = append-IsBytes (header_bytes id)
            (marker_bytes id 20 2076 ++ ((entry_bytes p ++ []) ++ [])) (header-IsBytes id)
            (append-IsBytes (marker_bytes id 20 2076) ((entry_bytes p ++ []) ++ [])
            (marker-IsBytes id 20 2076)
            (subst IsBytes (sym (append-nil (entry_bytes p ++ []) ∙ append-nil (entry_bytes p)))
            (entry-IsBytes p (of_payload m can))));
        whole = subst (λ (len : ℕ). AreWhole len 20 (large_section m ∷ [])) (sym n) whole;
        said = all_of_one (λ (e : Entry). (said : Mutation) × IsPayload e.payload said)
            (entry_from 28 p) (m, record { stored = can; spelled = refl });
      }

  -- ---- what is appended

  abbrev line : ℕ → ℕ → LoggedLine
  line number id = record {
    writer = 0;
    number = number;
    id = id;
    start = 28;
    end = 2076;
    mutation = m;
  }

  abbrev logged : List LoggedLine
  logged = line 1 1000 ∷ line 2 1001 ∷ []

  abbrev first : Append
  first = (log_name, large_segment 1000 m)

  abbrev second : Append
  second = (next_name, large_segment 1001 m)

  grows_first : appended (large_changes m) 1000 ≡ large_segment 1000 m
  grows_first =
      grown_here log_name (large_segment 1000 m) (second ∷ [])
      ∙ ap (λ (l : List ℕ). large_segment 1000 m ++ l)
      (grown_elsewhere next_name log_name (large_segment 1001 m) [] apart)
      ∙ append-nil (large_segment 1000 m)

  grows_second : appended (large_changes m) 1001 ≡ large_segment 1001 m
  grows_second =
      grown_elsewhere log_name next_name (large_segment 1000 m) (second ∷ []) (λ same.
      apart (sym same))
      ∙ grown_here next_name (large_segment 1001 m) [] ∙ append-nil (large_segment 1001 m)

  abbrev Kept : GrownSegment → Type 0
  Kept s = HasGrown (appends_of (large_changes m)) s.0
      × HoldsGrown (appends_of (large_changes m)) s.0 s.1

  holds : (id : ℕ) → id < 2 ^ 63 → appended (large_changes m) id ≡ large_segment id m
      → HoldsGrown (appends_of (large_changes m)) id
      (record { start = 28; end = 2076; payload = p } ∷ [])
  holds id fits is =
      let ends : 28 + 12 + length p ≡ 2076 = omega (arith, size) in
      subst (HoldsGrown (appends_of (large_changes m)) id)
      (λ i. record { start = 28; end = ends i; payload = p } ∷ [])
      (grown_holds (appends_of (large_changes m)) id (large_section m ∷ []) (can_hold id fits)
      (omega arith) is)

  both_appended : IsAppended (large_changes m) (1000 ∷ 1001 ∷ []) logged
  both_appended = record {
    kept = record {
      ordered = both_in_order;
      each = all_of_two Kept (1000, entries_in 1000 logged) (1001, entries_in 1001 logged) (
        record {
          fits = omega arith;
          bytes = large_segment 1000 m;
          listed = here first (second ∷ []);
        },
        holds 1000 (omega arith) grows_first,
      ) (
        record {
          fits = omega arith;
          bytes = large_segment 1001 m;
          listed = further first (second ∷ []) second (here second []);
        },
        holds 1001 (omega arith) grows_second,
      );
      every = λ id g. elim (first_or_further first (second ∷ []) (segment_name_of 6 id, g.bytes)
          g.listed) [
            | inl same ↦
                let named = ap (λ (a : Append). a.0) same in
                let is = one_id 1000 id (omega arith) g.fits (sym named) in (
                  entries_in 1000 logged,
                  subst (λ (i : ℕ). Contains (segments_of (1000 ∷ 1001 ∷ []) logged)
                      (i, entries_in 1000 logged)) (sym is)
                      (here (1000, entries_in 1000 logged) ((1001, entries_in 1001 logged) ∷ [])),
                )
            | inr more ↦
                let same = only_one second (segment_name_of 6 id, g.bytes) more in
                let named = ap (λ (a : Append). a.0) same in
                let is = one_id 1001 id (omega arith) g.fits (sym named) in (
                  entries_in 1001 logged,
                  subst (λ (i : ℕ). Contains (segments_of (1000 ∷ 1001 ∷ []) logged)
                      (i, entries_in 1001 logged)) (sym is)
                      (further (1000, entries_in 1000 logged) ((1001, entries_in 1001 logged) ∷ [])
                      (1001, entries_in 1001 logged) (here (1001, entries_in 1001 logged) [])),
                )
          ];
    };
    only = all_of_two (λ (a : Append). IsSegmentOf (1000 ∷ 1001 ∷ []) a.0) first second
        (record { id = 1000; listed = here 1000 (1001 ∷ []); named = refl })
        (record { id = 1001; listed = further 1000 (1001 ∷ []) 1001 (here 1001 []); named = refl });
    no_other = all_of_two (λ (w : LoggedLine). Contains (1000 ∷ 1001 ∷ []) w.id) (line 1 1000)
        (line 2 1001) (here 1000 (1001 ∷ [])) (further 1000 (1001 ∷ []) 1001 (here 1001 []));
  }

  -- ---- what is left

  both_store : IsStoreLeft false no_files (with_both m) (large_changes m) (1000 ∷ 1001 ∷ []) []
      logged []
  both_store = store_plain no_files (with_both m) (large_changes m) (1000 ∷ 1001 ∷ []) logged
      opened_empty.no_segment (λ id h. get-empty (slice_cmp nat_cmp) (archive_name_of id))
      both_appended
      (all_of_two (λ (id : ℕ). IsFile (appended (large_changes m) id)) 1000 1001
      (subst IsFile (sym grows_first)
      (is_file 1000 (large_section m ∷ []) (can_hold 1000 (omega arith))))
      (subst IsFile (sym grows_second)
      (is_file 1001 (large_section m ∷ []) (can_hold 1001 (omega arith)))))
      (all_of_two (λ (id : ℕ). (w : LoggedLine) × Contains logged w × (w.id ≡ id)) 1000 1001
      (line 1 1000, here (line 1 1000) (line 2 1001 ∷ []), refl) (
        line 2 1001,
        further (line 1 1000) (line 2 1001 ∷ []) (line 2 1001)
            (here (line 2 1001) []),
        refl,
      ))
      (all_of_two (λ (w : LoggedLine). IsStored w.mutation) (line 1 1000) (line 2 1001) can can)
      (all_of_two IsAppendTo (change.Append log_name (large_segment 1000 m))
      (change.Append next_name (large_segment 1001 m)) (log_name, large_segment 1000 m, refl)
      (next_name, large_segment 1001 m, refl))
      (all_of_two (λ (id : ℕ). finmap.get (with_both m) (segment_name_of 6 id)
      ≡ Some (appended (large_changes m) id)) 1000 1001
      (put_there (with_log (large_segment 1000 m)) next_name (large_segment 1001 m) log_name
      (λ same. apart (sym same)) ∙ put_here no_files log_name (large_segment 1000 m)
      ∙ ap Some (sym grows_first))
      (put_here (with_log (large_segment 1000 m)) next_name (large_segment 1001 m)
      ∙ ap Some (sym grows_second)))
      (λ name. elim (same_or_other name next_name) [
        | inl same ↦ inl (record {
          id = 1001;
          listed = further 1000 (1001 ∷ []) 1001 (here 1001 []);
          named = same;
        })
        | inr other ↦ elim (same_or_other name log_name) [
          | inl same ↦ inl (record { id = 1000; listed = here 1000 (1001 ∷ []); named = same })
          | inr one ↦ inr (put_there (with_log (large_segment 1000 m)) next_name
              (large_segment 1001 m) name other
              ∙ put_there no_files log_name (large_segment 1000 m) name one)
        ]
      ])

  placed : (number id : ℕ) → IsPlaced 4096 (line number id)
  placed number id = record {
    behind_front = omega arith;
    long = omega (arith, size);
    inside = omega arith;
    stored = can;
  }

  both_lawful : IsLawful 4096 logged
  both_lawful = record {
    each = all_of_two (IsPlaced 4096) (line 1 1000) (line 2 1001) (placed 1 1000) (placed 2 1001);
    apart = two_apart IsBefore (line 1 1000) (line 2 1001) (inl (omega arith));
  }

  -- ---- the run

  pub two_segments_applied : IsAppliedRun asked_for_small no_files (with_both m) (large_changes m)
      (large_lines m) report_of_large
  two_segments_applied =
      let one = receipt_line 1 1000 2076 in
      let two = receipt_line 2 1001 2076 in
      with_report asked_for_small no_files (with_both m) (large_changes m) (large_lines m)
      report_of_large (record {
        base = 1000;
        opened = no_files;
        recovery = [];
        later = large_changes m;
        ids = 1000 ∷ 1001 ∷ [];
        dropped = [];
        history = logged;
        files = [];
        parts = refl;
        opening = opened_empty;
        path = path_plain asked_for_small (large_lines m) 1000 logged refl refl refl refl
            both_lawful
            (all_of_two (λ (w : LoggedLine). 1000 ≤ w.id) (line 1 1000) (line 2 1001)
            (omega arith) (omega arith))
            (all_of_two (λ (w : LoggedLine). w.writer < 1) (line 1 1000) (line 2 1001)
            (omega arith) (omega arith)) refl;
        store = both_store;
        apart = λ e. absurd (let clash : Periodic 10000 ≡ Batch = e in cc);
      }) (record {
        receipts = one ++ (two ++ []);
        rows = [];
        receipts_are = (logged, record { numbers = refl; each = λ w h. h }, refl);
        rows_are = refl;
        text = ap (λ (l : List ℕ). applied_line 2 ++ l)
            (ap (λ (l : List ℕ). one ++ l) (sym (append-nil two))
            ∙ sym (append-nil (one ++ (two ++ []))));
      })
