-- Runs that do not keep what a run promises.
use Rattle.std.proofs.Common.{
  ◌≡◌,
  ℕ,
  ◌<◌,
  ◌^◌,
  Bool,
  inl,
  List,
  [],
  ◌∷◌,
  true,
  refl,
  sym,
  ap,
  subst,
  arith,
}
use Rattle.std.specs.Prelude.{Contains}
use Rattle.sync_core.specs.declared.SyncCore.TheVariants.{Periodic}
use Rattle.clog_spec.specs.Names.{segment_name_of}
use Rattle.clog_base.specs.declared.position.Position.{Position}
use Rattle.clog_base.proofs.Members.{further, here, in_map, only_one}
use Rattle.clog_base.proofs.NameLaws.{archive_is_no_table}
use Rattle.clog_disk.specs.declared.change.Change.{Change}
use Rattle.clog_disk.specs.declared.change.Change.TheVariants as change
use Rattle.clog_disk.specs.Files.{Files, no_files}
use Rattle.clog_mutation.specs.declared.mutation.Mutation.{Mutation}
use Rattle.clog_scan.specs.Segment.{Entry}
use Rattle.clog_table.specs.Format.{table_file_bytes}
use Rattle.clog_table.specs.declared.table_file.TableFile.{TableFile}
use Rattle.clog_crash.specs.Droppable.{Touches}
use Rattle.clog_crash.specs.Grown.{Append, appends_of}
use Rattle.clog_crash.specs.Worked.{first_table, the_mutation, the_segment}
use Rattle.clog_crash.proofs.changes.Names.{one_id}
use Rattle.clog_applied.specs.Appended.{IsAppended, entries_in, segments_of}
use Rattle.clog_applied.specs.Applied.{IsAppliedRun}
use Rattle.clog_applied.specs.Early.{AreRunChanges}
use Rattle.clog_applied.specs.Filed.{FollowFrom, first_of}
use Rattle.clog_applied.specs.History.{
  HoldsShares,
  Line,
  LoggedLine,
  entry_of,
  is_line,
  line_of,
}
use Rattle.clog_applied.specs.Log.{AreSyncedApart}
use Rattle.clog_applied.specs.Worked.{
  asked,
  both_changes,
  both_logged,
  come_early,
  comes,
  far_end,
  file_name,
  file_to,
  goes_in,
  goes_out,
  gone_early,
  line_at,
  log_name,
  one_line,
  stray_comes,
  stray_goes,
  stray_name,
  strays,
  the_end,
  twice_logged,
  with_gap,
}
use Rattle.clog_applied.proofs.Lists.{counted_from}
use Rattle.clog_applied.proofs.Merged.{of_entry}
use Rattle.clog_applied.proofs.rows.Drained.{is_named_so, spelled_to}
use Rattle.clog_applied.proofs.rows.Empty.{no_id}
use Rattle.clog_applied.proofs.rows.Plain.{first_update, touches_one}
use Rattle.clog_applied.proofs.rows.Synced.{the_update}

-- ---- where one append alone is made, to the worked segment

module _ (bytes : List ℕ) (changes : List Change)
    (alone : appends_of changes ≡ (log_name, bytes) ∷ [])
    (ids : List ℕ) (history : List LoggedLine) (is : IsAppended changes ids history) where
  fits : (id : ℕ) → Contains ids id → id < 2 ^ 63
  fits id h =
      let listed : Contains (segments_of ids history) (id, entries_in id history) =
      in_map (λ (i : ℕ). (i, entries_in i history)) ids id h in
      (is.kept.each (id, entries_in id history) listed).0.fits

  pub is_the_one : (id : ℕ) → Contains ids id → id ≡ 1000
  is_the_one id h =
      let listed : Contains (segments_of ids history) (id, entries_in id history) =
      in_map (λ (i : ℕ). (i, entries_in i history)) ids id h in
      let has = (is.kept.each (id, entries_in id history) listed).0 in
      let one = only_one (log_name, bytes) (segment_name_of 6 id, has.bytes)
      (subst (λ (as_is : List Append). Contains as_is (segment_name_of 6 id, has.bytes)) alone
      has.listed) in
      one_id 1000 id (omega arith) has.fits (sym (ap (λ (a : Append). a.0) one))

  pub the_one_is : Contains ids 1000
  the_one_is =
      let a = is.only (log_name, bytes)
      (subst (λ (as_is : List Append). Contains as_is (log_name, bytes)) (sym alone)
      (here (log_name, bytes) [])) in
      subst (λ (i : ℕ). Contains ids i) (is_the_one a.id a.listed) a.listed

-- ---- a segment that goes before a table file holds it

pub not_gone_early : (after : Files) (report : List ℕ)
    → ¬ IsAppliedRun (asked (Periodic 10000) true) no_files after gone_early one_line report
not_gone_early after report run =
    let log = run.log_holds_each_line_once in
    let its = the_one_is the_segment gone_early refl run.ids run.history log.is_appended in
    let g = run.nothing_goes_early.order.removed_filed (goes_in ∷ [])
    (comes (file_to the_end) ∷ []) 1000 its refl in
    let e = of_entry run.history 1000 g.droppable.entry g.droppable.has_entry in
    let stored = (log.lawful.each e.line e.listed).stored in
    let table = (first_update e.line.mutation stored).0.table in
    let its_touches = subst (λ (x : Entry). Touches x table) e.is (touches_one e.line stored) in
    let entry = g.droppable.entry in
    let filed = g.droppable.filed table entry entry g.droppable.has_entry
    g.droppable.has_entry its_touches its_touches entry.end (omega arith) (omega arith) in
    let put = (g.each filed.file filed.listed).1 in
    let clash : goes_in ≡ change.Publish put.name put.bytes =
    only_one goes_in (change.Publish put.name put.bytes) put.listed in
    cc

-- ---- a table file that comes before the log behind it

pub not_come_early : (after : Files) (report : List ℕ)
    → ¬ IsAppliedRun (asked (Periodic 10000) true) no_files after come_early one_line report
not_come_early after report run =
    let log = run.log_holds_each_line_once in
    let once = log.shares.once 1 (omega arith) (omega arith) in
    let w = counted_from (is_line 1) run.history (omega (arith, once)) in
    let line : Line = record { number = 1; mutation = the_mutation } in
    let said : the_mutation ≡ w.0.mutation =
    ap (λ (l : Line). l.mutation) (only_one line (line_of w.0) (log.shares.no_other w.0 w.1)) in
    let placed = log.lawful.each w.0 w.1 in
    let touches : Touches (entry_of w.0) first_table = record {
      mutation = w.0.mutation;
      said = record { stored = placed.stored; spelled = refl };
      update = the_update;
      listed = subst (λ (m : Mutation). Contains m.updates the_update) said
          (here the_update []);
      same_table = refl;
    } in
    let there = is_the_one the_segment come_early refl run.ids run.history log.is_appended w.0.id
    (log.is_appended.no_other w.0 w.1) in
    let behind = run.nothing_goes_early.order.published [] (goes_in ∷ goes_out ∷ []) file_name
    (table_file_bytes (file_to far_end)) (file_to far_end) refl (record {
      sequence = 1;
      named = is_named_so;
      spelled = spelled_to far_end (inl (omega arith)) (omega arith) (omega arith);
    }) (λ other named. absurd (no_id other named)) w.0 w.1 touches
    (inl (omega (arith, there))) in
    let front = placed.behind_front in
    let long = placed.long in
    omega (arith, behind, front, long)

-- ---- lines that are logged twice, or not at all

pub not_twice : ¬ HoldsShares 1 one_line twice_logged
not_twice shares =
    let once = shares.once 1 (omega arith) (omega arith) in omega (arith, once)

pub not_none : ¬ HoldsShares 1 one_line []
not_none shares =
    let once = shares.once 1 (omega arith) (omega arith) in omega (arith, once)

-- ---- two entries of one writer in one section

pub not_apart : ¬ AreSyncedApart both_changes both_logged
not_apart apart =
    let m = apart (line_at 1 28) (line_at 2 60) (here (line_at 1 28) (line_at 2 60 ∷ []))
    (further (line_at 1 28) (line_at 2 60 ∷ []) (line_at 2 60) (here (line_at 2 60) [])) refl refl
    (omega arith) in
    let behind = m.behind in
    let before = m.before in
    omega (arith, behind, before)

-- ---- files with a gap between them

pub no_gap : ¬ FollowFrom (first_of 1000) with_gap
no_gap follow =
    let clash : 68 ≡ 60 = ap (λ (p : Position). p.offset) follow.2.0 in omega (arith, clash)

-- ---- a name that no run gives

pub not_stray : (archive : Bool) (ids : List ℕ) (files : List TableFile)
    → ¬ AreRunChanges archive ids files strays
not_stray archive ids files only =
    let is = only stray_comes (further goes_in (stray_comes ∷ stray_goes ∷ []) stray_comes
    (here stray_comes (stray_goes ∷ []))) in
    archive_is_no_table stray_name 2000 (record { form = refl; id_fits = omega arith })
    is.0.table.0 is.2.sequence is.2.named
