-- A line is drained: a table file comes, and then its segment goes.
use Rattle.std.proofs.Common.{
  ◌^◌,
  ◌≡◌,
  ℕ,
  ◌<◌,
  ◌≤◌,
  inl,
  inr,
  List,
  [],
  ◌∷◌,
  ◌++◌,
  length,
  true,
  false,
  Some,
  None,
  refl,
  sym,
  ◌∙◌,
  ap,
  subst,
  arith,
}
use Rattle.std.specs.Prelude.{Contains, ◌↔◌}
use Rattle.std.specs.List.{AllPairs}
use Rattle.std.specs.FinMap as finmap
use Rattle.std.specs.FinMap.{get-empty}
use Rattle.std.specs.Cmp.Lexicographic.{slice_cmp}
use Rattle.std.specs.Ordering.{nat_cmp}
use Rattle.std.proofs.lemmas.Bool.{cases_eq}
use Rattle.std.proofs.lemmas.Bool.Decides.{nat_tests}
use Rattle.std.proofs.lemmas.List.{append-nil}
use Rattle.clog_spec.specs.Names.{archive_name_of, segment_name_of, IsTableName}
use Rattle.clog_base.specs.declared.cell.Table.{Table}
use Rattle.clog_base.specs.declared.position.Position.{Position}
use Rattle.clog_base.specs.Positions.{IsUpTo}
use Rattle.clog_base.proofs.Members.{first_or_further, further, here, only_one}
use Rattle.clog_base.proofs.NameLaws.{archive_is_no_table, one_table, segment_is_no_other}
use Rattle.clog_cells.proofs.Merging.{of_itself, of_same}
use Rattle.clog_disk.specs.declared.change.Change.{Change}
use Rattle.clog_disk.specs.declared.change.Change.TheVariants as change
use Rattle.clog_disk.specs.Files.{bytes_at, no_files}
use Rattle.clog_disk.proofs.Named.{put_here, put_there, same_or_other}
use Rattle.clog_mutation.specs.declared.mutation.Mutation.{Mutation}
use Rattle.clog_mutation.specs.declared.mutation.Update.{Update}
use Rattle.clog_mutation.specs.Payload.{cells_of}
use Rattle.clog_mutation.proofs.Decoding.{one_mutation}
use Rattle.clog_scan.specs.Laws.{IsFile}
use Rattle.clog_scan.specs.Segment.{Entry}
use Rattle.clog_table.specs.declared.table_file.TableFile.{TableFile}
use Rattle.clog_table.specs.Format.{table_file_bytes}
use Rattle.clog_table.specs.Refusals.{IsFileOf}
use Rattle.clog_crash.specs.Droppable.{IsDroppable, IsFiled, Touches}
use Rattle.clog_crash.specs.Folder.{IsHeld}
use Rattle.clog_crash.specs.Grown.{Append, appends_of, grown}
use Rattle.clog_crash.specs.Readings.{IsTableIn}
use Rattle.clog_crash.specs.Restore.{IsInInterval}
use Rattle.clog_crash.specs.Worked.{first_table, logged, the_mutation, the_segment}
use Rattle.clog_crash.proofs.OneMore.{bytes_of}
use Rattle.clog_crash.proofs.changes.Names.{not_segment}
use Rattle.clog_crash.proofs.changes.Nothing.{reads_as}
use Rattle.clog_crash.proofs.counts.Growing.{grown_here}
use Rattle.clog_crash.proofs.worked.Files.{
  ab,
  cd,
  held,
  is_segment_file,
  one_in_order,
  stored,
}
use Rattle.clog_applied.specs.Appended.{IsAppended, IsSegmentOf, appended, entries_in}
use Rattle.clog_applied.specs.Closed.{IsAnyFile, IsStoreLeft, StaysOrWent}
use Rattle.clog_applied.specs.Early.{AreInOrder, AreRunChanges, IsPublishedIn, IsRunChange}
use Rattle.clog_applied.specs.Filed.{
  IsCellWithin,
  IsTrueFor,
  StandsBefore,
  files_of,
  first_of,
  is_of,
}
use Rattle.clog_applied.specs.History.{LoggedLine, entry_of}
use Rattle.clog_applied.specs.Worked.{
  comes,
  drained_changes,
  file_name,
  file_to,
  goes_in,
  goes_out,
  line_at,
  log_name,
  one_logged,
  the_end,
  with_file,
}
use Rattle.clog_applied.proofs.Lists.{kept_one, left_one}
use Rattle.clog_applied.proofs.rows.Empty.{all_of_one, none_there, one_apart, one_appended}
use Rattle.clog_applied.proofs.rows.Synced.{not_none, the_update}

abbrev pub f : TableFile
f = file_to the_end

-- ---- the table file

pub is_named_so : IsTableName file_name 0 1
is_named_so = record {
  form = refl;
  table_fits = omega arith;
  sequence_starts = omega arith;
  sequence_fits = omega arith;
}

pub spelled_to : (upper : Position) → IsUpTo (first_of 1000) upper → upper.id < 2 ^ 64
    → upper.offset < 2 ^ 32
    → IsFileOf first_table (table_file_bytes (file_to upper)) (file_to upper)
spelled_to upper reaches id offset = record {
  is_file = record {
    table = omega arith;
    lower = record { id = omega arith; offset = omega arith };
    upper = record { id = id; offset = offset };
    interval = reaches;
    stored = (
      record {
        same_table = refl;
        key = record { size = record { some = omega arith; few = omega arith }; utf8 = ab };
        column = record { size = record { some = omega arith; few = omega arith }; utf8 = cd };
        ts = record { sfits = omega arith };
        value = refl;
      },
      tt,
    );
    map = record { ordered = one_in_order logged; few = omega arith };
  };
  same_table = refl;
  spelled = refl;
}

pub spelled : IsFileOf first_table (table_file_bytes f) f
spelled = spelled_to the_end (inr (refl, omega arith)) (omega arith) (omega arith)

-- what touches a table is of the first one
pub its_table : (table : Table) → Touches (entry_of (line_at 1 28)) table → first_table ≡ table
its_table table t =
    let same : the_mutation ≡ t.mutation =
    one_mutation the_mutation t.mutation stored t.said.stored t.said.spelled in
    let listed : Contains (the_update ∷ []) t.update =
    subst (λ (m : Mutation). Contains m.updates t.update) (sym same) t.listed in
    ap (λ (u : Update). u.table) (only_one the_update t.update listed) ∙ t.same_table

pub inside : (offset : ℕ) → 60 ≤ offset → offset ≤ 60
    → IsInInterval f (record { id = 1000; offset = offset })
inside offset low high = record {
  above = inr (refl, omega (arith, low));
  up_to = inr (refl, high);
}

pub filed_so : (table : Table) → first_table ≡ table → (offset : ℕ) → 60 ≤ offset → offset ≤ 60
    → IsFiled (f ∷ []) table (record { id = 1000; offset = offset })
filed_so table same offset low high = record {
  file = f;
  listed = here f [];
  same_table = same;
  inside = inside offset low high;
}

pub is_true : IsTrueFor one_logged f
is_true = of_same (Contains (logged ∷ [])) (IsCellWithin one_logged f) (logged ∷ [])
    (λ pair. (
      λ h. all_of_one (IsCellWithin one_logged f) logged (record {
        line = line_at 1 28;
        listed = here (line_at 1 28) [];
        inside = inside 60 (omega arith) (omega arith);
        cell = here logged [];
        same_table = refl;
      }) pair h,
      λ within.
          let same = only_one (line_at 1 28) within.line within.listed in
          subst (λ (w : LoggedLine). Contains (cells_of w.mutation) pair) (sym same) within.cell,
    )) (of_itself (logged ∷ []) (one_in_order logged))

-- ---- what was appended

pub grows : appended drained_changes 1000 ≡ the_segment
grows = grown_here log_name the_segment [] ∙ append-nil the_segment

-- by changes that append to the segment alone
pub its_appended : (changes : List Change) → appends_of changes ≡ (log_name, the_segment) ∷ []
    → IsAppended changes (1000 ∷ []) one_logged
its_appended changes alone =
    one_appended 1000 (omega arith) changes one_logged the_segment the_segment
    (ap (λ (as_is : List Append). grown as_is log_name) alone ∙ grows) held
    (subst (λ (as_is : List Append). Contains as_is (log_name, the_segment)) (sym alone)
    (here (log_name, the_segment) []))
    (λ a h. all_of_one (λ (x : Append). x.0 ≡ log_name) (log_name, the_segment) refl a
    (subst (λ (as_is : List Append). Contains as_is a) alone h))
    (all_of_one (λ (w : LoggedLine). w.id ≡ 1000) (line_at 1 28) refl)

-- ---- where the changes are cut

pub not_empty : (front : List Change) (c : Change) (rest : List Change) → [] ≡ front ++ c ∷ rest → ⊥
not_empty [] c rest is = cc
not_empty (x ∷ front) c rest is = cc

at_publish : (front rest : List Change) (n b : List ℕ)
    → drained_changes ≡ front ++ change.Publish n b ∷ rest → front ≡ goes_in ∷ []
at_publish [] rest n b is = absurd cc
at_publish (x ∷ []) rest n b is =
    let same : goes_in ≡ x = cc in ap (λ (c : Change). c ∷ []) (sym same)
at_publish (x ∷ y ∷ []) rest n b is = absurd cc
at_publish (x ∷ y ∷ z ∷ front) rest n b is =
    let tails : [] ≡ front ++ change.Publish n b ∷ rest = cc in
    absurd (not_empty front (change.Publish n b) rest tails)

at_remove : (front rest : List Change) (n : List ℕ)
    → drained_changes ≡ front ++ change.Remove n ∷ rest → front ≡ goes_in ∷ comes f ∷ []
at_remove [] rest n is = absurd cc
at_remove (x ∷ []) rest n is = absurd cc
at_remove (x ∷ y ∷ []) rest n is =
    let one : goes_in ≡ x = cc in
    let two : comes f ≡ y = cc in
    ap (λ (c : Change). c ∷ y ∷ []) (sym one) ∙ ap (λ (c : Change). goes_in ∷ c ∷ []) (sym two)
at_remove (x ∷ y ∷ z ∷ front) rest n is =
    let tails : [] ≡ front ++ change.Remove n ∷ rest = cc in
    absurd (not_empty front (change.Remove n) rest tails)

no_link : (front rest : List Change) (old new : List ℕ)
    → drained_changes ≡ front ++ change.Link old new ∷ rest → ⊥
no_link [] rest old new is = cc
no_link (x ∷ []) rest old new is = cc
no_link (x ∷ y ∷ []) rest old new is = cc
no_link (x ∷ y ∷ z ∷ front) rest old new is =
    let tails : [] ≡ front ++ change.Link old new ∷ rest = cc in
    not_empty front (change.Link old new) rest tails

-- ---- the order

pub droppable : IsDroppable (f ∷ []) 1000 (entries_in 1000 one_logged)
droppable = record {
  entry = entry_of (line_at 1 28);
  has_entry = here (entry_of (line_at 1 28)) [];
  filed = λ table a b ha hb ta tb offset low high.
      let one : entry_of (line_at 1 28) ≡ a = only_one (entry_of (line_at 1 28)) a ha in
      let two : entry_of (line_at 1 28) ≡ b = only_one (entry_of (line_at 1 28)) b hb in
      let low_so : 60 ≤ offset = subst (λ (e : Entry). e.end ≤ offset) (sym one) low in
      let high_so : offset ≤ 60 = subst (λ (e : Entry). offset ≤ e.end) (sym two) high in
      filed_so table (its_table table (subst (λ (e : Entry). Touches e table) (sym one) ta))
      offset low_so high_so;
}

published_so : (front : List Change) → front ≡ goes_in ∷ comes f ∷ [] → (file : TableFile)
    → Contains (f ∷ []) file → Contains (f ∷ []) file × IsPublishedIn front file
published_so front is file h = (
  h,
  all_of_one (IsPublishedIn front) f (record {
    name = file_name;
    bytes = table_file_bytes f;
    listed = subst (λ (cs : List Change). Contains cs (comes f)) (sym is)
        (further goes_in (comes f ∷ []) (comes f) (here (comes f) []));
    says = record { sequence = 1; named = is_named_so; spelled = spelled };
  }) file h,
)

pub in_order : AreInOrder IsAnyFile false drained_changes (1000 ∷ []) one_logged (f ∷ [])
in_order = record {
  published = λ front rest n b file is says any w h touches up_to.
      subst (λ (cs : List Change). w.end ≤ length (appended cs w.id))
      (sym (at_publish front rest n b is))
      (all_of_one (λ (x : LoggedLine). x.end ≤ length (appended (goes_in ∷ []) x.id))
      (line_at 1 28) (let g = ap length grows in omega (arith, g)) w h);
  removed_whole = λ front rest id h is.
      ap (λ (cs : List Change). appended cs id)
      (at_remove front rest (segment_name_of 6 id) is);
  removed_filed = λ front rest id h is. record {
    put = f ∷ [];
    each = published_so front (at_remove front rest (segment_name_of 6 id) is);
    droppable = all_of_one (λ (i : ℕ). IsDroppable (f ∷ []) i (entries_in i one_logged)) 1000
        droppable id h;
  };
  removed_archived = λ e. absurd (let clash : false ≡ true = e in cc);
  archived_whole = λ front rest id name h is.
      absurd (no_link front rest (segment_name_of 6 id) name is);
}

-- ---- what stands there

pub nowhere : (name : List ℕ) → (name ≡ file_name → ⊥) → finmap.get with_file name ≡ None
nowhere name apart =
    put_there no_files file_name (table_file_bytes f) name apart
    ∙ get-empty (slice_cmp nat_cmp) name

pub held_is : (name : List ℕ) → IsHeld with_file name → name ≡ file_name
held_is name there = elim (same_or_other name file_name) [
  | inl same ↦ same
  | inr apart ↦
      let found = bytes_of (finmap.get with_file name) there in
      absurd (not_none (finmap.get with_file name) found.0 (nowhere name apart) found.1)
]

pub stands : finmap.get with_file file_name ≡ Some (table_file_bytes f)
stands = put_here no_files file_name (table_file_bytes f)

its_files : (table : Table) → first_table ≡ table → files_of table (f ∷ []) ≡ f ∷ []
its_files table same =
    let number : 0 ≡ table.0 = ap (λ (t : Table). t.0) same in
    kept_one (is_of table) f [] (grind (arith, nat_tests, number))

pub of_each : (P : List TableFile → Type 0) → P (f ∷ []) → P [] → (table : Table)
    → P (files_of table (f ∷ []))
of_each P one none table = elim (cases_eq 0 table.0) [
  | inl number ↦ subst P (sym (its_files table (λ i. record { 0 = number i }))) one
  | inr apart ↦
      subst P (sym (left_one (is_of table) f [] (grind (arith, nat_tests, apart)))) none
]

pub none_apart : (R : TableFile → TableFile → Type 0) → AllPairs R []
none_apart R i j d low high = absurd (omega (arith, high))

-- each change is one of the run
its_changes : AreRunChanges false (1000 ∷ []) (f ∷ []) drained_changes
its_changes c h = elim (first_or_further goes_in (comes f ∷ goes_out ∷ []) c h) [
  | inl same ↦ subst (IsRunChange false (1000 ∷ []) (f ∷ [])) same its_segment
  | inr more ↦ elim (first_or_further (comes f) (goes_out ∷ []) c more) [
    | inl same ↦ subst (IsRunChange false (1000 ∷ []) (f ∷ [])) same
        (f, here f [], record { sequence = 1; named = is_named_so; spelled = spelled })
    | inr last ↦ subst (IsRunChange false (1000 ∷ []) (f ∷ [])) (only_one goes_out c last)
        its_segment
  ]
]
  where
    its_segment : IsSegmentOf (1000 ∷ []) log_name
    its_segment = record { id = 1000; listed = here 1000 []; named = refl }

pub store_went : IsStoreLeft false no_files with_file drained_changes (1000 ∷ []) (1000 ∷ [])
    one_logged (f ∷ [])
store_went = record {
  is_appended = its_appended drained_changes refl;
  bytes = all_of_one (λ (id : ℕ). IsFile (appended drained_changes id)) 1000
      (subst IsFile (sym grows) is_segment_file);
  some = all_of_one (λ (id : ℕ). (w : LoggedLine) × Contains one_logged w × (w.id ≡ id)) 1000
      (line_at 1 28, here (line_at 1 28) [], refl);
  order = in_order;
  only = its_changes;
  dropped_exactly = all_of_one
      (λ (id : ℕ). Contains (1000 ∷ []) id ↔ IsDroppable (f ∷ []) id (entries_in id one_logged))
      1000 (λ listed. droppable, λ d. here 1000 []);
  segments = all_of_one
      (λ (id : ℕ). StaysOrWent false with_file (1000 ∷ []) id (appended drained_changes id)) 1000
      (inl (
        here 1000 [],
        record {
          segment = nowhere log_name (λ same. not_segment 1000 file_name 0 1 (omega arith)
              is_named_so (sym same));
          archived = nowhere (archive_name_of 1000) (λ same.
              archive_is_no_table (archive_name_of 1000) 1000
              (record { form = refl; id_fits = omega arith }) 0 1
              (subst (λ (n : List ℕ). IsTableName n 0 1) (sym same) is_named_so));
        },
      ));
  no_other = λ name version id named there.
      let same = held_is name there in
      absurd ((segment_is_no_other name version id named).1 0 1
      (subst (λ (n : List ℕ). IsTableName n 0 1) (sym same) is_named_so));
  put = all_of_one (IsTableIn (bytes_at with_file)) f (record {
    sequence = 1;
    named = is_named_so;
    spelled = subst (λ (b : List ℕ). IsFileOf first_table b f)
        (sym (reads_as with_file file_name (table_file_bytes f) stands)) spelled;
  });
  rise = of_each (AllPairs (StandsBefore with_file)) (one_apart (StandsBefore with_file) f)
      (none_apart (StandsBefore with_file));
  tables = λ place name named there.
      let same = held_is name there in
      let numbers = one_table file_name place.0.0 place.1 0 1
      (subst (λ (n : List ℕ). IsTableName n place.0.0 place.1) same named) is_named_so in
      inr (record {
        file = f;
        listed = here f [];
        good = record {
          bytes = table_file_bytes f;
          there = ap (finmap.get with_file) same ∙ stands;
          spelled = subst (λ (t : Table). IsFileOf t (table_file_bytes f) f)
              (λ i. record { 0 = sym numbers.0 i }) spelled;
        };
      });
  others = λ name b none there. absurd (none_there name b there);
  no_stray = λ name absent held. inr (inr (
    0,
    1,
    subst (λ (n : List ℕ). IsTableName n 0 1)
        (sym (held_is name held)) is_named_so,
  ));
}
