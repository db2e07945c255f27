-- What is left of the drained worked run where archives are kept.
use Rattle.std.proofs.Common.{
  ◌≡◌,
  ◌⊎◌,
  ℕ,
  inl,
  inr,
  List,
  [],
  ◌∷◌,
  true,
  Some,
  None,
  sym,
  ◌∙◌,
  ap,
  subst,
  refl,
  arith,
}
use Rattle.std.specs.Prelude.{Contains, ◌↔◌}
use Rattle.std.specs.List.{AllPairs}
use Rattle.std.specs.FinMap as finmap
use Rattle.clog_spec.specs.Names.{IsArchiveName, IsTableName, archive_name_of}
use Rattle.clog_base.specs.declared.cell.Table.{Table}
use Rattle.clog_base.proofs.Members.{first_or_further, here, only_one}
use Rattle.clog_base.proofs.NameLaws.{archive_is_no_table, one_table, segment_is_no_other}
use Rattle.clog_disk.specs.Files.{bytes_at, no_files}
use Rattle.clog_disk.proofs.Named.{put_here, put_there, same_or_other}
use Rattle.clog_scan.specs.Laws.{IsFile}
use Rattle.clog_table.specs.Format.{table_file_bytes}
use Rattle.clog_table.specs.Refusals.{IsFileOf}
use Rattle.clog_crash.specs.Droppable.{IsDroppable}
use Rattle.clog_crash.specs.Folder.{IsHeld}
use Rattle.clog_crash.specs.Readings.{IsTableIn}
use Rattle.clog_crash.specs.Worked.{first_table, the_segment}
use Rattle.clog_crash.proofs.OneMore.{bytes_of}
use Rattle.clog_crash.proofs.changes.Names.{is_named, not_segment}
use Rattle.clog_crash.proofs.changes.Nothing.{reads_as}
use Rattle.clog_crash.proofs.worked.Files.{is_segment_file}
use Rattle.clog_applied.specs.Appended.{IsSegmentOf, appended, entries_in}
use Rattle.clog_applied.specs.Closed.{IsStoreLeft, StaysOrWent}
use Rattle.clog_applied.specs.Early.{AreRunChanges, IsRunChange}
use Rattle.clog_applied.specs.Filed.{StandsBefore}
use Rattle.clog_applied.specs.History.{LoggedLine}
use Rattle.clog_applied.specs.Worked.{
  archived_changes,
  comes,
  file_name,
  gets_archived,
  goes_in,
  goes_out,
  line_at,
  log_name,
  one_logged,
  with_file,
}
use Rattle.clog_applied.specs.WorkedRuns.{with_archive}
use Rattle.clog_applied.proofs.rows.Archived.{in_order}
use Rattle.clog_applied.proofs.rows.Drained as drained
use Rattle.clog_applied.proofs.rows.Drained.{
  droppable,
  f,
  grows,
  is_named_so,
  its_appended,
  none_apart,
  of_each,
  spelled,
  stands,
}
use Rattle.clog_applied.proofs.rows.Empty.{all_of_one, none_there, one_apart}
use Rattle.clog_applied.proofs.rows.Synced.{not_none}

abbrev its_archive : List ℕ
its_archive = archive_name_of 1000

archive_named : (name : List ℕ) → name ≡ its_archive → IsArchiveName name 1000
archive_named name same = record { form = same; id_fits = omega arith }

-- ---- its two names

apart : file_name ≡ its_archive → ⊥
apart same = archive_is_no_table file_name 1000 (archive_named file_name same) 0 1 is_named_so

log_apart : log_name ≡ its_archive → ⊥
log_apart same = (segment_is_no_other log_name 6 1000 (is_named 1000 (omega arith))).0 1000
    (archive_named log_name same)

nowhere : (name : List ℕ) → (name ≡ its_archive → ⊥) → (name ≡ file_name → ⊥)
    → finmap.get with_archive name ≡ None
nowhere name one other =
    put_there with_file its_archive the_segment name one ∙ drained.nowhere name other

held_is : (name : List ℕ) → IsHeld with_archive name → (name ≡ its_archive) ⊎ (name ≡ file_name)
held_is name held = elim (same_or_other name its_archive) [
  | inl same ↦ inl same
  | inr one ↦ elim (same_or_other name file_name) [
    | inl same ↦ inr same
    | inr other ↦
        let found = bytes_of (finmap.get with_archive name) held in
        absurd (not_none (finmap.get with_archive name) found.0 (nowhere name one other) found.1)
  ]
]

file_stands : finmap.get with_archive file_name ≡ Some (table_file_bytes f)
file_stands = put_there with_file its_archive the_segment file_name apart ∙ stands

-- ---- what is left

-- each change is one of the run
its_changes : AreRunChanges true (1000 ∷ []) (f ∷ []) archived_changes
its_changes c h =
    elim (first_or_further goes_in (comes f ∷ gets_archived ∷ goes_out ∷ []) c h) [
      | inl same ↦ subst (IsRunChange true (1000 ∷ []) (f ∷ [])) same its_segment
      | inr more ↦ elim (first_or_further (comes f) (gets_archived ∷ goes_out ∷ []) c more) [
        | inl same ↦ subst (IsRunChange true (1000 ∷ []) (f ∷ [])) same
            (f, here f [], record { sequence = 1; named = is_named_so; spelled = spelled })
        | inr last ↦ elim (first_or_further gets_archived (goes_out ∷ []) c last) [
          | inl same ↦ subst (IsRunChange true (1000 ∷ []) (f ∷ [])) same
              (refl, record { segment = its_segment; new_is = refl })
          | inr one ↦ subst (IsRunChange true (1000 ∷ []) (f ∷ [])) (only_one goes_out c one)
              its_segment
        ]
      ]
    ]
  where
    its_segment : IsSegmentOf (1000 ∷ []) log_name
    its_segment = record { id = 1000; listed = here 1000 []; named = refl }

pub store_archived : IsStoreLeft true no_files with_archive archived_changes (1000 ∷ [])
    (1000 ∷ []) one_logged (f ∷ [])
store_archived = record {
  is_appended = its_appended archived_changes refl;
  bytes = all_of_one (λ (id : ℕ). IsFile (appended archived_changes id)) 1000
      (subst IsFile (sym grows) is_segment_file);
  some = all_of_one (λ (id : ℕ). (w : LoggedLine) × Contains one_logged w × (w.id ≡ id)) 1000
      (line_at 1 28, here (line_at 1 28) [], refl);
  order = in_order;
  only = its_changes;
  dropped_exactly = all_of_one
      (λ (id : ℕ). Contains (1000 ∷ []) id ↔ IsDroppable (f ∷ []) id (entries_in id one_logged))
      1000 (λ listed. droppable, λ d. here 1000 []);
  segments = all_of_one
      (λ (id : ℕ). StaysOrWent true with_archive (1000 ∷ []) id (appended archived_changes id)) 1000
      (inl (
        here 1000 [],
        record {
          segment = nowhere log_name log_apart (λ same. not_segment 1000 file_name 0 1
              (omega arith) is_named_so (sym same));
          archived = put_here with_file its_archive the_segment ∙ ap Some (sym grows);
        },
      ));
  no_other = λ name version id named there. elim (held_is name there) [
    | inl same ↦
        absurd ((segment_is_no_other name version id named).0 1000 (archive_named name same))
    | inr same ↦ absurd ((segment_is_no_other name version id named).1 0 1
        (subst (λ (n : List ℕ). IsTableName n 0 1) (sym same) is_named_so))
  ];
  put = all_of_one (IsTableIn (bytes_at with_archive)) f (record {
    sequence = 1;
    named = is_named_so;
    spelled = subst (λ (b : List ℕ). IsFileOf first_table b f)
        (sym (reads_as with_archive file_name (table_file_bytes f) file_stands)) spelled;
  });
  rise = of_each (AllPairs (StandsBefore with_archive)) (one_apart (StandsBefore with_archive) f)
      (none_apart (StandsBefore with_archive));
  tables = λ place name named there. elim (held_is name there) [
    | inl same ↦
        absurd (archive_is_no_table name 1000 (archive_named name same) place.0.0 place.1 named)
    | inr same ↦
        let numbers = one_table file_name place.0.0 place.1 0 1
        (subst (λ (n : List ℕ). IsTableName n place.0.0 place.1) same named) is_named_so in
        inr (record {
          file = f;
          listed = here f [];
          good = record {
            bytes = table_file_bytes f;
            there = ap (finmap.get with_archive) same ∙ file_stands;
            spelled = subst (λ (t : Table). IsFileOf t (table_file_bytes f) f)
                (λ i. record { 0 = sym numbers.0 i }) spelled;
          };
        })
  ];
  others = λ name b none there. absurd (none_there name b there);
  no_stray = λ name absent held. elim (held_is name held) [
    | inl same ↦ inr (inl (1000, here 1000 [], same))
    | inr same ↦ inr (inr (
      0,
      1,
      subst (λ (n : List ℕ). IsTableName n 0 1) (sym same) is_named_so,
    ))
  ];
}
