-- A folder behind a run's lines can be read, and one that can be read is not refused.
use Rattle.std.proofs.Common.{
  ◌≡◌,
  ℕ,
  ◌≤◌,
  List,
  length,
  Bool,
  true,
  false,
  Option,
  Some,
  None,
  inl,
  inr,
  refl,
  sym,
  ap,
  subst,
  ◌∙◌,
  arith,
}
use Rattle.std.specs.Prelude.{Contains, IfSome, is_some}
use Rattle.std.specs.FinMap as finmap
use Rattle.std.proofs.lemmas.Option.{none-some}
use Rattle.clog_spec.specs.Names.{IsSegmentName, segment_name_of}
use Rattle.clog_spec.specs.Sizes.{file_limit}
use Rattle.clog_disk.specs.declared.change.Change.{Change}
use Rattle.clog_disk.specs.Files.{Files, Told}
use Rattle.clog_entry.specs.declared.cause.Cause.{Cause}
use Rattle.clog_mutation.specs.declared.mutation.Mutation.{Mutation}
use Rattle.clog_scan.specs.Laws.{IsFile}
use Rattle.clog_table.specs.declared.fault.TableFault.{TableFault}
use Rattle.clog_words.specs.declared.request.ApplyOptions.{ApplyOptions}
use Rattle.clog_crash.specs.Damage.{AreSegmentFiles}
use Rattle.clog_crash.specs.Folder.{IsFirstBad}
use Rattle.clog_crash.proofs.damage.BadTables.{good_has_none}
use Rattle.clog_crash.proofs.damage.First.{undamaged_has_none}
use Rattle.clog_folder.specs.Folder.{HasDamage, HasLongSegment}
use Rattle.clog_folder.specs.Segments.{IsTooLong}
use Rattle.clog_applied.specs.Appended.{appended}
use Rattle.clog_applied.specs.Asked.{capacity_of}
use Rattle.clog_engine.specs.Completes.{IsReplayable}
use Rattle.clog_engine.specs.Logged.{IsRun, Turns}
use Rattle.clog_engine.specs.Outside.{Outside}

-- ---- a folder that can be read is not refused

pub no_damage : (ignore : Bool) (files : Option Files) (name : List ℕ) (at : ℕ) (cause : Cause)
    → Told files (IsReplayable ignore) → ignore ≡ false
    → IfSome files (λ held. HasDamage held name at cause) → ⊥
no_damage ignore None name at cause fit strict damage = fit
no_damage ignore (Some files) name at cause fit strict damage =
    undamaged_has_none files name at cause fit.segments (fit.readable.undamaged strict)
    damage.first.damage

pub no_long_segment : (ignore : Bool) (files : Option Files) → Told files (IsReplayable ignore)
    → IfSome files (λ held. HasLongSegment ignore held) → ⊥
no_long_segment ignore None fit long = fit
no_long_segment ignore (Some files) fit long =
    fit.readable.short long.first.name long.first.id long.first.named long.first.long

pub no_bad_table : (ignore : Bool) (files : Option Files) (name : List ℕ) (fault : TableFault)
    → Told files (IsReplayable ignore) → IfSome files (λ held. IsFirstBad held name fault) → ⊥
no_bad_table ignore None name fault fit bad = fit
no_bad_table ignore (Some files) name fault fit bad =
    good_has_none files name fault fit.readable.tables bad

-- ---- behind a run

module _ (o : Outside) (options : ApplyOptions) (ms : List Mutation) (text : List ℕ)
    (before after : Files) (added : List Change)
    (run : IsRun o options ms text before after added) (low : capacity_of options ≤ file_limit)
  where
    -- a segment that is there has the bytes that were appended to it
    as_appended : (name bytes : List ℕ) (id : ℕ) → IsSegmentName name 6 id
        → finmap.get after name ≡ Some bytes
        → Contains run.closed.ids id × (bytes ≡ appended run.closed.later id)
    as_appended name bytes id named there =
        let store = run.closed.store in
        let listed = (store.no_other name 6 id named (ap is_some there)).1 in
        let form : name ≡ segment_name_of 6 id = named.form in
        let its : finmap.get after (segment_name_of 6 id) ≡ Some bytes =
        sym (ap (finmap.get after) form) ∙ there in
        elim (store.segments id listed) [
          | inl went ↦ absurd (none-some bytes (sym went.1.segment ∙ its))
          | inr stays ↦
              let same : Some (appended run.closed.later id) ≡ Some bytes =
              sym stays.1.segment ∙ its in
              let equal : bytes ≡ appended run.closed.later id = cc in (listed, equal)
        ]

    none_long : (name : List ℕ) (id : ℕ) → IsSegmentName name 6 id → ¬ IsTooLong after name
    none_long name id named long =
        let has = as_appended name long.bytes id named long.there in
        let size = ap length has.1 in
        let most = run.reach.fit id has.0 in
        let more = long.long in
        omega (arith, size, most, more, low)

    are_segments : AreSegmentFiles after
    are_segments name bytes id named there =
        let has = as_appended name bytes id named there in
        subst IsFile (sym has.1) (run.closed.store.bytes id has.0)

    run_reads : IsReplayable false after
    run_reads =
        let undamaged = run.kept.merge_is_kept.undamaged in
        record {
          readable = record {
            tables = undamaged.tables;
            short = none_long;
            undamaged = λ _. undamaged;
          };
          segments = are_segments;
        }

-- Where a disk tells its files and its changes, those behind a run can be read.
pub reads_behind : (o : Outside) (options : ApplyOptions) (ms : List Mutation) (text : List ℕ)
    → capacity_of options ≤ file_limit → is_some o.changes ≡ is_some o.files
    → Turns o (IsRun o options ms text) → (before : Files) → o.files ≡ Some before
    → Told o.files_now (IsReplayable false)
reads_behind o options ms text low both turns before is = by o.changes refl
  where
    apart : false ≡ true → ⊥
    apart same = cc

    by : (changes : Option (List Change)) → o.changes ≡ changes
        → Told o.files_now (IsReplayable false)
    by None none = absurd (apart (sym (ap is_some none) ∙ (both ∙ ap is_some is)))
    by (Some made) changes =
        let b = turns before made is changes in
        subst (λ (files : Option Files). Told files (IsReplayable false)) (sym b.files_are)
        (run_reads o options ms text before b.after b.added b.is low)
