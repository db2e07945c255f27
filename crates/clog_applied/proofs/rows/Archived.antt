-- The worked drained run where archives are kept: the segment has its archive name before it goes,
-- and a run in which it goes without one is none.
use Rattle.std.proofs.Common.{
  ◌≡◌,
  ℕ,
  ◌≤◌,
  true,
  inl,
  inr,
  List,
  [],
  ◌∷◌,
  ◌++◌,
  length,
  refl,
  sym,
  ap,
  subst,
  arith,
}
use Rattle.std.specs.Prelude.{Contains}
use Rattle.clog_spec.specs.Names.{archive_name_of, segment_name_of}
use Rattle.clog_base.proofs.Members.{first_or_further, further, here, only_one}
use Rattle.clog_disk.specs.declared.change.Change.{Change}
use Rattle.clog_disk.specs.declared.change.Change.TheVariants as change
use Rattle.clog_disk.specs.Files.{Files, no_files}
use Rattle.clog_table.specs.Format.{table_file_bytes}
use Rattle.clog_table.specs.declared.table_file.TableFile.{TableFile}
use Rattle.clog_crash.specs.Droppable.{IsDroppable}
use Rattle.clog_crash.specs.Worked.{the_segment}
use Rattle.clog_applied.specs.Appended.{appended, entries_in}
use Rattle.clog_applied.specs.Applied.{IsAppliedRun}
use Rattle.clog_applied.specs.Closed.{IsAnyFile}
use Rattle.clog_applied.specs.Early.{AreInOrder, IsPublishedIn}
use Rattle.clog_applied.specs.History.{LoggedLine}
use Rattle.clog_applied.specs.Worked.{
  archived_changes,
  asked_to_archive,
  comes,
  drained_changes,
  file_name,
  gets_archived,
  goes_in,
  line_at,
  one_line,
  one_logged,
}
use Rattle.clog_applied.proofs.rows.Drained.{
  droppable,
  f,
  grows,
  is_named_so,
  not_empty,
  spelled,
}
use Rattle.clog_applied.proofs.rows.Empty.{all_of_one}
use Rattle.clog_applied.proofs.rows.Wrong.{the_one_is}

-- ---- where the changes are cut

at_publish : (front rest : List Change) (n b : List ℕ)
    → archived_changes ≡ front ++ change.Publish n b ∷ rest → front ≡ goes_in ∷ []
at_publish [] rest n b is = absurd cc
at_publish (x ∷ []) rest n b is =
    let same : goes_in ≡ x = cc in ap (λ (c : Change). c ∷ []) (sym same)
at_publish (x ∷ y ∷ []) rest n b is = absurd cc
at_publish (x ∷ y ∷ z ∷ []) rest n b is = absurd cc
at_publish (x ∷ y ∷ z ∷ u ∷ front) rest n b is =
    let tails : [] ≡ front ++ change.Publish n b ∷ rest = cc in
    absurd (not_empty front (change.Publish n b) rest tails)

at_remove : (front rest : List Change) (n : List ℕ)
    → archived_changes ≡ front ++ change.Remove n ∷ rest
    → front ≡ goes_in ∷ comes f ∷ gets_archived ∷ []
at_remove [] rest n is = absurd cc
at_remove (x ∷ []) rest n is = absurd cc
at_remove (x ∷ y ∷ []) rest n is = absurd cc
at_remove (x ∷ y ∷ z ∷ []) rest n is =
    let one : goes_in ≡ x = cc in
    let two : comes f ≡ y = cc in
    let three : gets_archived ≡ z = cc in
    cc
at_remove (x ∷ y ∷ z ∷ u ∷ front) rest n is =
    let tails : [] ≡ front ++ change.Remove n ∷ rest = cc in
    absurd (not_empty front (change.Remove n) rest tails)

-- the one link is of the segment, to its archive name
abbrev AtLink : List Change → List ℕ → Type 0
AtLink front new = (front ≡ goes_in ∷ comes f ∷ []) × (new ≡ archive_name_of 1000)

at_link : (front rest : List Change) (old new : List ℕ)
    → archived_changes ≡ front ++ change.Link old new ∷ rest → AtLink front new
at_link [] rest old new is = absurd cc
at_link (x ∷ []) rest old new is = absurd cc
at_link (x ∷ y ∷ []) rest old new is =
    let one : goes_in ≡ x = cc in
    let two : comes f ≡ y = cc in
    (cc, cc)
at_link (x ∷ y ∷ z ∷ []) rest old new is = absurd cc
at_link (x ∷ y ∷ z ∷ u ∷ front) rest old new is =
    let tails : [] ≡ front ++ change.Link old new ∷ rest = cc in
    absurd (not_empty front (change.Link old new) rest tails)

-- ---- the order

published_so : (front : List Change) → front ≡ goes_in ∷ comes f ∷ gets_archived ∷ []
    → (file : TableFile) → Contains (f ∷ []) file
    → Contains (f ∷ []) file × IsPublishedIn front file
published_so front is file h = (
  h,
  all_of_one (IsPublishedIn front) f (record {
    name = file_name;
    bytes = table_file_bytes f;
    listed = subst (λ (cs : List Change). Contains cs (comes f)) (sym is)
        (further goes_in (comes f ∷ gets_archived ∷ []) (comes f)
        (here (comes f) (gets_archived ∷ [])));
    says = record { sequence = 1; named = is_named_so; spelled = spelled };
  }) file h,
)

named_so : (front : List Change) → front ≡ goes_in ∷ comes f ∷ gets_archived ∷ []
    → Contains front gets_archived
named_so front is =
    subst (λ (cs : List Change). Contains cs gets_archived) (sym is)
    (further goes_in (comes f ∷ gets_archived ∷ []) gets_archived
    (further (comes f) (gets_archived ∷ []) gets_archived (here gets_archived [])))

pub in_order : AreInOrder IsAnyFile true archived_changes (1000 ∷ []) one_logged (f ∷ [])
in_order = record {
  published = λ front rest n b file is says any w h touches up_to.
      subst (λ (cs : List Change). w.end ≤ length (appended cs w.id))
      (sym (at_publish front rest n b is))
      (all_of_one (λ (x : LoggedLine). x.end ≤ length (appended (goes_in ∷ []) x.id))
      (line_at 1 28) (let g = ap length grows in omega (arith, g)) w h);
  removed_whole = λ front rest id h is.
      ap (λ (cs : List Change). appended cs id)
      (at_remove front rest (segment_name_of 6 id) is);
  removed_filed = λ front rest id h is. record {
    put = f ∷ [];
    each = published_so front (at_remove front rest (segment_name_of 6 id) is);
    droppable = all_of_one (λ (i : ℕ). IsDroppable (f ∷ []) i (entries_in i one_logged)) 1000
        droppable id h;
  };
  removed_archived = λ archive front rest id h is.
      all_of_one (λ (i : ℕ).
      Contains front (change.Link (segment_name_of 6 i) (archive_name_of i))) 1000
      (named_so front (at_remove front rest (segment_name_of 6 id) is)) id h;
  archived_whole = λ front rest id name h is.
      let at = at_link front rest (segment_name_of 6 id) name is in
      let same : 1000 ≡ id = only_one 1000 id h in (
        subst (λ (i : ℕ). name ≡ archive_name_of i) same at.1,
        ap (λ (cs : List Change). appended cs id) at.0,
      );
}

-- ---- a segment that goes without its archive name

pub not_unarchived : (after : Files) (report : List ℕ)
    → ¬ IsAppliedRun asked_to_archive no_files after drained_changes one_line report
not_unarchived after report run =
    let log = run.log_holds_each_line_once in
    let its = the_one_is the_segment drained_changes refl run.ids run.history log.is_appended in
    let front = goes_in ∷ comes f ∷ [] in
    let named = run.nothing_goes_early.order.removed_archived refl front [] 1000 its refl in
    elim (first_or_further goes_in (comes f ∷ []) gets_archived named) [
      | inl same ↦ (let clash : goes_in ≡ gets_archived = same in cc)
      | inr more ↦
          let clash : comes f ≡ gets_archived = only_one (comes f) gets_archived more in
          cc
    ]
