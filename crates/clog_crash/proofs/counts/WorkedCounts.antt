-- What the folder of the worked row counts.
use Rattle.std.proofs.Common.{
  ◌≡◌,
  ◌⊎◌,
  ℕ,
  inl,
  inr,
  List,
  [],
  ◌∷◌,
  refl,
  sym,
  ◌∙◌,
  ap,
  subst,
  arith,
}
use Rattle.std.specs.Prelude.{Contains, is_some}
use Rattle.std.specs.Cmp.Lexicographic.{slice_cmp}
use Rattle.std.specs.FinMap as finmap
use Rattle.std.specs.List.Sorted.{IsStrictlySortedBy}
use Rattle.std.specs.Ordering.{nat_cmp}
use Rattle.clog_base.proofs.Members.{here, only_one}
use Rattle.clog_base.proofs.NameLaws.{segment_is_no_other}
use Rattle.clog_disk.specs.Files.{no_files}
use Rattle.clog_mutation.proofs.Decoding.{one_mutation}
use Rattle.clog_scan.specs.Segment.{Entry}
use Rattle.clog_table.specs.Format.{table_file_bytes}
use Rattle.clog_crash.specs.Counts.{
  AreCounts,
  AreNames,
  IsLog,
  IsLoggedMutation,
  IsNameOfTable,
  LoggedMutation,
  position_cmp,
}
use Rattle.clog_crash.specs.Folder.{IsHeld, IsNameOfSegment}
use Rattle.clog_crash.specs.Restore.{end_position}
use Rattle.clog_crash.specs.Worked.{
  first_table,
  the_file,
  the_folder,
  the_mutation,
  the_segment,
}
use Rattle.clog_disk.proofs.Named.{put_here}
use Rattle.clog_crash.proofs.OneMore.{bytes_of, stays}
use Rattle.clog_crash.proofs.worked.Cells.{logged_is}
use Rattle.clog_crash.proofs.worked.Files.{segment_name, stored, table_name, the_entry}
use Rattle.clog_crash.proofs.worked.Folder.{named_segment, named_table, no_table, stands}
use Rattle.clog_crash.proofs.worked.Skipping.{
  apart,
  is_skipped,
  its_end,
  is_logged_entry,
  not_skipped,
}

-- ---- names

is_name : (upper : ℕ) (name : List ℕ) → IsHeld (the_folder first_table upper) name
    → (name ≡ table_name first_table) ⊎ (name ≡ segment_name)
is_name upper name held =
    let there = bytes_of (finmap.get (the_folder first_table upper) name) held in
    elim (stands first_table upper name there.0 there.1) [
      | inl table ↦ inl table.0
      | inr segment ↦ inr segment.0
    ]

one_name_in_order : (name : List ℕ) → IsStrictlySortedBy (slice_cmp nat_cmp) (name ∷ [])
unfolding IsStrictlySortedBy
one_name_in_order name = (tt, tt)

segment_held : (upper : ℕ) → IsHeld (the_folder first_table upper) segment_name
segment_held upper =
    ap is_some (stays (finmap.insert no_files segment_name the_segment) (table_name first_table)
    (table_file_bytes (the_file first_table upper)) segment_name the_segment
    (apart first_table (omega arith)) (put_here no_files segment_name the_segment))

segments : (upper : ℕ)
    → AreNames (the_folder first_table upper) IsNameOfSegment (segment_name ∷ [])
segments upper = record {
  ordered = one_name_in_order segment_name;
  are = λ name. (
    λ h. elim (is_name upper name h.0) [
      | inr same ↦ subst (Contains (segment_name ∷ [])) (sym same) (here segment_name [])
      | inl same ↦ absurd ((segment_is_no_other name h.1.0 h.1.1.0 h.1.1.1).1 first_table.0 1
          (named_table first_table name (omega arith) same))
    ],
    λ h.
        let same = only_one segment_name name h in
        subst (λ (n : List ℕ). IsHeld (the_folder first_table upper) n × IsNameOfSegment n) same
        (segment_held upper, (6, (1000, named_segment))),
  );
}

tables : (upper : ℕ)
    → AreNames (the_folder first_table upper) IsNameOfTable (table_name first_table ∷ [])
tables upper = record {
  ordered = one_name_in_order (table_name first_table);
  are = λ name. (
    λ h. elim (is_name upper name h.0) [
      | inl same ↦ subst (Contains (table_name first_table ∷ [])) (sym same)
          (here (table_name first_table) [])
      | inr same ↦ absurd (no_table name h.1.0 h.1.1.0 same h.1.1.1)
    ],
    λ h.
        let same = only_one (table_name first_table) name h in
        subst (λ (n : List ℕ). IsHeld (the_folder first_table upper) n × IsNameOfTable n) same (
          ap is_some (put_here (finmap.insert no_files segment_name the_segment)
              (table_name first_table) (table_file_bytes (the_file first_table upper))),
          (0, (1, named_table first_table (table_name first_table) (omega arith) refl)),
        ),
  );
}

-- ---- the log

abbrev the_log : LoggedMutation
the_log = record { at = its_end; mutation = the_mutation }

is_the_log : (upper : ℕ) (l : LoggedMutation)
    → IsLoggedMutation (the_folder first_table upper) l → the_log ≡ l
is_the_log upper l m =
    let is = logged_is first_table upper l.at.id m.entry (omega arith) m.logged in
    let place : its_end ≡ l.at =
    ap (λ (i : ℕ). end_position i the_entry) is.0
    ∙ ap (λ (e : Entry). end_position l.at.id e) is.1 ∙ m.place in
    let mutation : the_mutation ≡ l.mutation =
    one_mutation the_mutation l.mutation stored m.said.stored
    (ap (λ (e : Entry). e.payload) is.1 ∙ m.said.spelled) in
    λ i. record { at = place i; mutation = mutation i }

one_in_log : IsStrictlySortedBy position_cmp (its_end ∷ [])
unfolding IsStrictlySortedBy
one_in_log = (tt, tt)

is_log : (upper : ℕ) → IsLog (the_folder first_table upper) (the_log ∷ [])
is_log upper = record {
  ordered = one_in_log;
  are = λ l. (
    λ m. subst (Contains (the_log ∷ [])) (is_the_log upper l m) (here the_log []),
    λ h. subst (IsLoggedMutation (the_folder first_table upper)) (only_one the_log l h) (record {
      entry = the_entry;
      logged = is_logged_entry first_table upper (omega arith);
      place = refl;
      said = record { stored = stored; spelled = refl };
    }),
  );
}

-- ---- the counts

pub skipped_counts : AreCounts (the_folder first_table 60) 1 1 1 0 1
skipped_counts = record {
  segment_names = segment_name ∷ [];
  segments_all = segments 60;
  segments_are = refl;
  table_names = table_name first_table ∷ [];
  tables_all = tables 60;
  tables_are = refl;
  log = the_log ∷ [];
  is_log = is_log 60;
  entries_are = refl;
  updates_are = inr ((λ not. not is_skipped), refl);
  skipped_are = inl (is_skipped, (0, refl, refl));
}

pub merged_counts : AreCounts (the_folder first_table 59) 1 1 1 1 0
merged_counts = record {
  segment_names = segment_name ∷ [];
  segments_all = segments 59;
  segments_are = refl;
  table_names = table_name first_table ∷ [];
  tables_all = tables 59;
  tables_are = refl;
  log = the_log ∷ [];
  is_log = is_log 59;
  entries_are = refl;
  updates_are = inl (not_skipped, (0, refl, refl));
  skipped_are = inr (not_skipped, refl);
}
