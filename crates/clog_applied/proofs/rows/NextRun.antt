-- A line is logged into a folder that a drained run has left: it holds a table file, and no
-- segment.
use Rattle.std.proofs.Common.{
  ◌≡◌,
  ℕ,
  ◌<◌,
  ◌≤◌,
  ◌^◌,
  inl,
  inr,
  List,
  [],
  ◌∷◌,
  ◌++◌,
  length,
  false,
  Option,
  Some,
  None,
  refl,
  sym,
  ◌∙◌,
  ap,
  subst,
  arith,
}
use Rattle.std.specs.Prelude.{Contains, IsSome}
use Rattle.std.specs.FinMap as finmap
use Rattle.std.proofs.lemmas.List.{append-nil}
use Rattle.sync_core.specs.declared.SyncCore.TheVariants.{Batch, Periodic}
use Rattle.clog_spec.specs.Segment.{header_bytes, marker_bytes, section_bytes}
use Rattle.clog_spec.proofs.Bytes.{append-IsBytes}
use Rattle.clog_spec.proofs.StoredBytes.{header-IsBytes, marker-IsBytes}
use Rattle.clog_spec.specs.Names.{
  IsSegmentName,
  IsTableName,
  archive_name_of,
  segment_name_of,
  table_name_of,
}
use Rattle.clog_base.specs.declared.cell.Table.{Table}
use Rattle.clog_base.proofs.Members.{here, nothing_there}
use Rattle.clog_base.proofs.NameLaws.{archive_is_no_table, one_table, segment_is_no_other}
use Rattle.clog_disk.specs.declared.change.Change.TheVariants as change
use Rattle.clog_disk.specs.Files.{bytes_at}
use Rattle.clog_disk.proofs.Named.{put_here, put_there, same_or_other}
use Rattle.clog_mutation.specs.Payload.{payload_of}
use Rattle.clog_mutation.specs.Stored.{IsStored}
use Rattle.clog_scan.specs.declared.answer.End.TheVariants.{Clean}
use Rattle.clog_scan.specs.Laws.{IsFile}
use Rattle.clog_scan.specs.Segment.{IsSegment}
use Rattle.clog_scan.proofs.Written.{written}
use Rattle.clog_table.specs.declared.table_file.TableFile.{TableFile}
use Rattle.clog_table.specs.Format.{table_file_bytes}
use Rattle.clog_table.specs.Refusals.{IsFileOf}
use Rattle.clog_crash.specs.Folder.{HasSegmentFile, IsHeld}
use Rattle.clog_crash.specs.Grown.{Append}
use Rattle.clog_crash.specs.Readings.{IsTableIn, RestoresIn}
use Rattle.clog_crash.specs.Recovery.{NamesAny}
use Rattle.clog_crash.specs.Worked.{the_mutation}
use Rattle.clog_crash.specs.WorkedGrown.{entry_at, one_entry}
use Rattle.clog_crash.proofs.changes.Covering.{exactly}
use Rattle.clog_crash.proofs.changes.Nothing.{no_table, reads_as, there_or_nothing}
use Rattle.clog_crash.proofs.counts.Growing.{grown_here}
use Rattle.clog_crash.proofs.worked.Files.{stored}
use Rattle.clog_table.proofs.Again.{one_table_file}
use Rattle.clog_applied.specs.Appended.{IsAppended, appended}
use Rattle.clog_applied.specs.Applied.{IsAppliedRun}
use Rattle.clog_applied.specs.Closed.{IsStoreLeft}
use Rattle.clog_applied.specs.History.{IsBefore, IsLawful, IsPlaced, LoggedLine}
use Rattle.clog_applied.specs.Opening.{IsOpening}
use Rattle.clog_applied.specs.Printed.{applied_line, receipt_line}
use Rattle.clog_applied.specs.Worked.{asked, file_name, one_line, with_file}
use Rattle.clog_applied.specs.WorkedRuns.{
  next_changes,
  next_logged,
  next_name,
  next_segment,
  report_of_next,
  with_next,
}
use Rattle.clog_applied.proofs.Whole.{with_report}
use Rattle.clog_applied.proofs.rows.Bytes.{entry_is_bytes}
use Rattle.clog_applied.proofs.rows.Drained.{f, held_is, is_named_so, nowhere, spelled, stands}
use Rattle.clog_applied.proofs.rows.Empty.{all_of_one, one_apart, one_appended}
use Rattle.clog_applied.proofs.rows.Plain.{IsAppendTo, path_plain, store_plain}

-- ---- the folder at the opening

no_segment_named : (name : List ℕ) (version id : ℕ) → IsSegmentName name version id
    → IsHeld with_file name → ⊥
no_segment_named name version id named held =
    (segment_is_no_other name version id named).1 0 1
    (subst (λ (n : List ℕ). IsTableName n 0 1) (sym (held_is name held)) is_named_so)

no_segment : ¬ HasSegmentFile with_file
no_segment has = no_segment_named has.0 has.2.0 has.2.1.0 has.2.1.1 has.1

no_archive : (id : ℕ) → id < 2 ^ 63 → finmap.get with_file (archive_name_of id) ≡ None
no_archive id fits = nowhere (archive_name_of id) (λ same.
    archive_is_no_table (archive_name_of id) id (record { form = refl; id_fits = fits }) 0 1
    (subst (λ (n : List ℕ). IsTableName n 0 1) (sym same) is_named_so))

-- the one table file that is read
read_is : (file : TableFile) → IsTableIn (bytes_at with_file) file → file ≡ f
read_is file t =
    let name = table_name_of file.table.0 t.sequence in
    elim (there_or_nothing with_file name) [
      | inl there ↦
          let same = held_is name (subst (λ (o : Option (List ℕ)). IsSome o) (sym there) refl) in
          let bytes = ap (bytes_at with_file) same
          ∙ reads_as with_file file_name (table_file_bytes f) stands in
          let numbers = one_table file_name file.table.0 t.sequence 0 1
          (subst (λ (n : List ℕ). IsTableName n file.table.0 t.sequence) same t.named)
          is_named_so in
          sym (one_table_file file.table (table_file_bytes f) file f
          (subst (λ (b : List ℕ). IsFileOf file.table b file) bytes t.spelled)
          (subst (λ (t : Table). IsFileOf t (table_file_bytes f) f)
          (λ i. record { 0 = sym numbers.0 i }) spelled))
      | inr none ↦ absurd (no_table file.table file (bytes_at with_file name) none t.spelled)
    ]

named_below : (id : ℕ) → NamesAny with_file id → id < 1001
named_below id named = elim named [
  | inl segment ↦ absurd
      (no_segment_named segment.0 segment.1.0 id segment.1.1 segment.1.2)
  | inr more ↦ elim more [
    | inl archive ↦ absurd (archive_is_no_table archive.0 id archive.2 0 1
        (subst (λ (n : List ℕ). IsTableName n 0 1) (sym (held_is archive.0 archive.1))
        is_named_so))
    | inr table ↦
        let same = ap (λ (file : TableFile). file.upper.id) (read_is table.0 table.1) in
        omega (arith, table.2, same)
  ]
]

opened_held : IsOpening with_file with_file [] 1001
opened_held = record {
  same = record {
    same = exactly (RestoresIn (bytes_at with_file)) (RestoresIn (bytes_at with_file))
        (λ pair. (λ a. a, λ a. a));
    undamaged = record {
      tables = λ place name named held.
          let same = held_is name held in
          let numbers = one_table file_name place.0.0 place.1 0 1
          (subst (λ (n : List ℕ). IsTableName n place.0.0 place.1) same named) is_named_so in (
            f,
            record {
              bytes = table_file_bytes f;
              there = ap (finmap.get with_file) same ∙ stands;
              spelled = subst (λ (t : Table). IsFileOf t (table_file_bytes f) f)
                  (λ i. record { 0 = sym numbers.0 i }) spelled;
            },
          );
      segments = λ name version id named held.
          absurd (no_segment_named name version id named held);
    };
  };
  no_segment = no_segment;
  others = λ name bytes none there. there;
  came = λ name bytes there absent.
      let clash : None ≡ Some bytes = sym absent ∙ there in absurd cc;
  base_above = named_below;
  changes = λ c h. absurd (nothing_there c h);
}

-- ---- the next segment

next_file : IsFile next_segment
next_file = record {
  are_bytes = append-IsBytes (header_bytes 1001) (section_bytes 1001 20 one_entry)
      (header-IsBytes 1001)
      (append-IsBytes (marker_bytes 1001 20 60) one_entry (marker-IsBytes 1001 20 60)
      entry_is_bytes);
  short = omega arith;
}

next_held : IsSegment next_segment 1001 (entry_at 28 ∷ []) (Clean (length next_segment))
next_held =
    written next_segment 1001 (record { until = 60; payloads = payload_of the_mutation ∷ [] } ∷ [])
    next_file refl (
      record {
        behind = omega arith;
        within = omega arith;
        fits = omega arith;
        least = (omega arith, tt);
      },
      refl,
      tt,
    )

abbrev w : LoggedLine
w = record {
  writer = 0;
  number = 1;
  id = 1001;
  start = 28;
  end = 60;
  mutation = the_mutation;
}

next_grows : appended next_changes 1001 ≡ next_segment
next_grows = grown_here next_name next_segment [] ∙ append-nil next_segment

next_appended : IsAppended next_changes (1001 ∷ []) next_logged
next_appended = one_appended 1001 (omega arith) next_changes next_logged next_segment next_segment
    next_grows next_held (here (next_name, next_segment) [])
    (all_of_one (λ (a : Append). a.0 ≡ next_name) (next_name, next_segment) refl)
    (all_of_one (λ (x : LoggedLine). x.id ≡ 1001) w refl)

-- ---- the run

next_store : IsStoreLeft false with_file with_next next_changes (1001 ∷ []) [] next_logged []
next_store = store_plain with_file with_next next_changes (1001 ∷ []) next_logged no_segment
    (all_of_one (λ (id : ℕ). finmap.get with_file (archive_name_of id) ≡ None) 1001
    (no_archive 1001 (omega arith)))
    next_appended
    (all_of_one (λ (id : ℕ). IsFile (appended next_changes id)) 1001
    (subst IsFile (sym next_grows) next_file))
    (all_of_one (λ (id : ℕ). (x : LoggedLine) × Contains next_logged x × (x.id ≡ id)) 1001
    (w, here w [], refl))
    (all_of_one (λ (x : LoggedLine). IsStored x.mutation) w stored)
    (all_of_one IsAppendTo (change.Append next_name next_segment) (next_name, next_segment, refl))
    (all_of_one (λ (id : ℕ). finmap.get with_next (segment_name_of 6 id)
    ≡ Some (appended next_changes id)) 1001
    (put_here with_file next_name next_segment ∙ ap Some (sym next_grows)))
    (λ name. elim (same_or_other name next_name) [
      | inl same ↦ inl (record { id = 1001; listed = here 1001 []; named = same })
      | inr apart ↦ inr (put_there with_file next_name next_segment name apart)
    ])

next_lawful : IsLawful 33554432 next_logged
next_lawful = record {
  each = all_of_one (IsPlaced 33554432) w (record {
    behind_front = omega arith;
    long = omega arith;
    inside = omega arith;
    stored = stored;
  });
  apart = one_apart IsBefore w;
}

pub next_applied : IsAppliedRun (asked (Periodic 10000) false) with_file with_next next_changes
    one_line report_of_next
next_applied =
    let its = receipt_line 1 1001 60 in
    with_report (asked (Periodic 10000) false) with_file with_next next_changes one_line
    report_of_next (record {
      base = 1001;
      opened = with_file;
      recovery = [];
      later = next_changes;
      ids = 1001 ∷ [];
      dropped = [];
      history = next_logged;
      files = [];
      parts = refl;
      opening = opened_held;
      path = path_plain (asked (Periodic 10000) false) one_line 1001 next_logged refl refl refl
          refl next_lawful (all_of_one (λ (x : LoggedLine). 1001 ≤ x.id) w (omega arith))
          (all_of_one (λ (x : LoggedLine). x.writer < 1) w (omega arith)) refl;
      store = next_store;
      apart = λ e. absurd (let clash : Periodic 10000 ≡ Batch = e in cc);
    }) (record {
      receipts = its ++ [];
      rows = [];
      receipts_are = (next_logged, record { numbers = refl; each = λ x h. h }, refl);
      rows_are = refl;
      text = ap (λ (l : List ℕ). applied_line 1 ++ l)
          (sym (append-nil its) ∙ sym (append-nil (its ++ [])));
    })
