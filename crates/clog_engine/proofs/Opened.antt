-- What a run leaves once its folder was opened, whether its lines were written or not.
use Rattle.std.proofs.Common.{
  ◌≡◌,
  ℕ,
  List,
  ◌++◌,
  length,
  map,
  Option,
  Some,
  None,
  true,
  inl,
  inr,
  refl,
  sym,
  ap,
  subst,
  ◌∙◌,
  append_assoc,
  arith,
}
use Rattle.std.specs.Prelude.{IfSome, is_some, ⊤}
use Rattle.std.specs.FinMap as finmap
use Rattle.clog_base.specs.declared.cell.Cell.{Cell}
use Rattle.clog_base.specs.declared.cell.CellKey.{CellKey}
use Rattle.clog_io.specs.declared.clock.Clock.{Ghosts as ClockTells}
use Rattle.clog_disk.specs.declared.change.Change.{Change}
use Rattle.clog_disk.specs.declared.disk.Disk.{Ghosts as DiskTells}
use Rattle.clog_disk.specs.Files.{Files, SameTold, Told, bytes_at}
use Rattle.clog_disk.specs.Images.{IsImage, LeavesOnly}
use Rattle.clog_mutation.specs.declared.mutation.Mutation.{Mutation}
use Rattle.clog_words.specs.declared.request.ApplyOptions.{ApplyOptions}
use Rattle.clog_crash.specs.Log.{Write}
use Rattle.clog_crash.specs.Restore.{IsRestored}
use Rattle.clog_folder.specs.Passing.{IsUntouched as IsDiskUntouched}
use Rattle.clog_folder.proofs.Passing.{both, no_call}
use Rattle.clog_applied.specs.Filed.{BringsNoOther, IsNewName, KeepsOthers}
use Rattle.clog_applied.specs.History.{LoggedLine}
use Rattle.clog_segments.specs.Opened.{
  CanBeOpened,
  IsOpened,
  IsRecovered,
  KeepsFolder,
  OpensAs,
  RecoversAll,
  RecoversFirst,
  WasLeftOr,
}
use Rattle.clog_segments.specs.StoreFailed.{AllStay}
use Rattle.clog_segments.proofs.OpenedWhole.{keeps_same}
use Rattle.clog_segments.proofs.WasLeft.{left_then}
use Rattle.clog_closing.specs.Logs.{id_of}
use Rattle.clog_closing.proofs.Openings.{recovery_changes}
use Rattle.clog_closing.specs.Written.{BringsOnly, HasBrought}
use Rattle.clog_writers.specs.Left.{LeavesShares, SaysShares, WritesShares, said_by}
use Rattle.clog_writers.specs.Written.{TellsWrittenShares}
use Rattle.write_path.specs.declared.commit.Receipt.{Receipt}
use Rattle.clog_engine.specs.Logged.{
  HasWrittenLog,
  IsRun,
  KeepsAll,
  LastsFirst,
  LeavesFirst,
  Turns,
  Wrote,
}
use Rattle.clog_engine.specs.Outside.{IsLeftAlone, Outside, outside_with}
use Rattle.clog_engine.specs.Report.{IsReport, head_with}
use Rattle.clog_engine.proofs.Images.{adds_lines, while_written}
use Rattle.clog_engine.proofs.SharesApplied.{run_of_shares}

-- ---- what is told

pub if_told : (files looked : Option Files) (P : Files → Type 0) → looked ≡ files
    → ((first : Files) → looked ≡ Some first → P first) → IfSome files P
if_told None looked P same has = tt
if_told (Some first) looked P same has = has first same

-- what told files are
pub told_as : (told : Option Files) (P : Files → Type 0) → Told told P
    → (files : Files) × (told ≡ Some files) × P files
told_as None P has = absurd has
told_as (Some files) P has = (files, refl, has)

-- an opened folder, where it was told
pub opened_as : (looked told : Option Files) (moment base : ℕ) (first : Files)
    → looked ≡ Some first → OpensAs looked told moment base
    → (opened : Files) × (told ≡ Some opened) × IsOpened first moment base opened
opened_as looked told moment base first is opens =
    told_as told (IsOpened first moment base)
    (subst (λ (o : Option Files). OpensAs o told moment base) is opens)

-- files that are told stay told over two calls
pub told_then : (a b c : Option Files) → SameTold a b → SameTold b c → SameTold a c
told_then None b c first next = subst (λ (o : Option Files). SameTold o c) first next
told_then (Some x) None c first next = absurd first
told_then (Some x) (Some y) c first next = next

-- no other name has come over an opening, and then
brings_over : (base : ℕ) (first then after : Files) (ids : List ℕ) → IsRecovered first base then
    → BringsNoOther ids then after → BringsNoOther ids first after
brings_over base first then after ids recovered brings name absent held =
    by (finmap.get then name) refl
  where
    by : (o : Option (List ℕ)) → finmap.get then name ≡ o → IsNewName ids name
    by None is = brings name is held
    by (Some bytes) is =
        let put = recovered.came name bytes is absent in
        inr (inr (put.file.table.0, put.sequence, put.named))

-- ---- by a disk

-- one that was left alone between two moments of a run
left_over : {D C : Type 0} (disk : DiskTells D) (clock : ClockTells C)
    (left left_now : Option (List ℕ)) (f g : ℕ) (start now : D) (at : C)
    → ((image : Files) → disk.since start (disk.moment start) image
    → IsImage (disk.leaves start) image)
    → IsDiskUntouched disk.files disk.changes disk.leaves disk.moment disk.since disk.read_at
    disk.lasted_at disk.faults start now
    → IsLeftAlone (outside_with left left_now f g disk clock start now at)
left_over disk clock left left_now f g start now at only still = record {
  still = still.same;
  changes = still.changes_are;
  meanwhile = λ image since.
      elim (still.time.nothing_else (disk.moment start) image (omega arith) since) [
        | inl old ↦ only image old
        | inr new ↦ λ name. still.same.images.fewer name (finmap.get image name) (new name)
      ];
}

-- one that was not called
pub uncalled_alone : {D C : Type 0} (disk : DiskTells D) (clock : ClockTells C)
    (left left_now : Option (List ℕ)) (f g : ℕ) (start : D) (at : C)
    → ((image : Files) → disk.since start (disk.moment start) image
    → IsImage (disk.leaves start) image)
    → IsLeftAlone (outside_with left left_now f g disk clock start start at)
uncalled_alone disk clock left left_now f g start at only =
    left_over disk clock left left_now f g start start at only
    (no_call disk.files disk.changes disk.leaves disk.moment disk.since disk.read_at
    disk.lasted_at disk.faults start)

module _ {D C : Type 0} (disk : DiskTells D) (clock : ClockTells C)
    (left left_now : Option (List ℕ)) (f g : ℕ) (start looked : D) (at : C)
    (only : (image : Files) → disk.since start (disk.moment start) image
    → IsImage (disk.leaves start) image)
    (still : IsDiskUntouched disk.files disk.changes disk.leaves disk.moment disk.since
    disk.read_at disk.lasted_at disk.faults start looked) where
  abbrev outside_at : D → Outside
  outside_at now = outside_with left left_now f g disk clock start now at

  same_told : (now : D) → SameTold (disk.files looked) (disk.files now)
      → SameTold (disk.files start) (disk.files now)
  same_told now told =
      subst (λ (o : Option Files). SameTold o (disk.files now)) still.same.files told

  -- a disk that was only looked at, and then left alone
  pub looked_alone : IsLeftAlone (outside_at looked)
  looked_alone = left_over disk clock left left_now f g start looked at only still

  pub left_alone : (now : D)
      → IsDiskUntouched disk.files disk.changes disk.leaves disk.moment disk.since disk.read_at
      disk.lasted_at disk.faults looked now → IsLeftAlone (outside_at now)
  left_alone now alone =
      left_over disk clock left left_now f g start now at only
      (both disk.files disk.changes disk.leaves disk.moment disk.since disk.read_at disk.lasted_at
      disk.faults start looked now still alone)

  -- over the look too
  while_opened : (now : D) (first : Files)
      → LeavesOnly disk.moment disk.since looked now
      (WasLeftOr (disk.leaves looked) (KeepsFolder first))
      → LeavesOnly disk.moment disk.since start now
      (WasLeftOr (disk.leaves start) (KeepsFolder first))
  while_opened now first opening =
      left_then disk.moment disk.since disk.leaves disk.read_at disk.lasted_at start looked only
      still.same.images.fewer still.time now (KeepsFolder first) opening

  -- a folder that was opened, or whose opening broke off, restores the same
  pub keeps_all : (now : D) → SameTold (disk.files looked) (disk.files now)
      → ((first : Files) → disk.files looked ≡ Some first
      → Told (disk.files now) (KeepsFolder first))
      → ((first : Files) → disk.files looked ≡ Some first
      → Told (disk.files now) (KeepsOthers first))
      → ((first : Files) → disk.files looked ≡ Some first
      → LeavesOnly disk.moment disk.since looked now
      (WasLeftOr (disk.leaves looked) (KeepsFolder first)))
      → ((first : Files) → disk.files looked ≡ Some first
      → RecoversFirst first (disk.changes looked) (disk.changes now))
      → KeepsAll (outside_at now)
  keeps_all now told keeps stay any recovers = record {
    told = same_told now told;
    changes = if_told (disk.files start) (disk.files looked)
        (λ (first : Files). RecoversFirst first (disk.changes start) (disk.changes now))
        still.same.files (λ first is.
        subst (λ (c : Option (List Change)). RecoversFirst first c (disk.changes now))
        still.changes_are (recovers first is));
    same = if_told (disk.files start) (disk.files looked)
        (λ (first : Files). Told (disk.files now) (KeepsFolder first)) still.same.files keeps;
    others = if_told (disk.files start) (disk.files looked)
        (λ (first : Files). Told (disk.files now) (KeepsOthers first)) still.same.files stay;
    lasts = if_told (disk.files start) (disk.files looked)
        (λ (first : Files). (image : Files) → disk.since now (disk.moment start) image
        → WasLeftOr (disk.leaves start) (KeepsFolder first) image)
        still.same.files (λ first is. (while_opened now first (any first is)).each);
  }

  module _ (opened : D) (moment base : ℕ)
      (opens : OpensAs (disk.files looked) (disk.files opened) moment base)
      (any : (first : Files) → disk.files looked ≡ Some first
      → LeavesOnly disk.moment disk.since looked opened
      (WasLeftOr (disk.leaves looked) (KeepsFolder first)))
      (recovers : (first : Files) → disk.files looked ≡ Some first
      → RecoversAll first (disk.changes looked) (disk.changes opened)) where
    -- the folder could be opened
    pub could_open : (now : D) → IfSome (outside_at now).files CanBeOpened
    could_open now = if_told (disk.files start) (disk.files looked) CanBeOpened still.same.files
        (λ first is.
        (opened_as (disk.files looked) (disk.files opened) moment base first is opens).2.within)

    -- no other name has come than those of a log, over the opening too
    no_stray : (now : D) (first : Files) → disk.files looked ≡ Some first → (log : List Write)
        → BringsOnly disk.files opened now log → SameTold (disk.files opened) (disk.files now)
        → Told (disk.files now) (BringsNoOther (map id_of log) first)
    no_stray now first is log brings told =
        let then = opened_as (disk.files looked) (disk.files opened) moment base first is opens in
        let after = told_as (disk.files now) (λ f. ⊤)
        (subst (λ (o : Option Files). SameTold o (disk.files now)) then.1 told) in
        subst (λ (o : Option Files). Told o (BringsNoOther (map id_of log) first)) (sym after.1)
        (brings_over base first then.0 after.0 (map id_of log) then.2.recovered
        (brings then.0 after.0 then.1 after.1))

    -- what was appended behind the recovery
    written : (now : D) (options : ApplyOptions) (ms : List Mutation) (first : Files)
        → disk.files looked ≡ Some first → (log : List Write)
        → HasBrought disk.files disk.changes opened now base (is_some options.flush_at)
        options.archive options.drain options.writers ms log
        → HasWrittenLog (outside_at now) options first ms log
    written now options ms first is log has = record {
      between = disk.changes opened;
      recovered = subst (λ (c : Option (List Change)). RecoversAll first c (disk.changes opened))
          still.changes_are (recovers first is);
      added = has.added;
      changes_are = has.changes_are;
      base = base;
      base_new =
          let then = opened_as (disk.files looked) (disk.files opened) moment base first is opens in
          then.2.is_base.above;
      made_for = has.made_for;
      brought = has.brought;
      rise = has.rise;
      new = λ w among other named.
          let then = opened_as (disk.files looked) (disk.files opened) moment base first is opens in
          let below = then.2.is_base.above other named in
          let above = has.above w among in omega (arith, below, above);
    }

    pub wrote : (now : D) (options : ApplyOptions) (ms : List Mutation)
        → WritesShares disk.files disk.changes opened now base (is_some options.flush_at)
        options.archive options.drain options.writers ms → SameTold (disk.files opened) (disk.files
        now)
        → Wrote (outside_at now) options ms
    wrote now options ms has told = if_told (disk.files start) (disk.files looked)
        (λ (first : Files). (log : List Write) × (history : List LoggedLine)
        × HasWrittenLog (outside_at now) options first ms log
        × SaysShares options.writers ms log history
        × Told (disk.files now) (BringsNoOther (map id_of log) first))
        still.same.files (λ first is. (
          has.log,
          has.history,
          written now options ms first is has.log has.wrote,
          has.says,
          no_stray now first is has.log has.only told,
        ))

    -- what is no segment stands as it was
    pub others : (now : D) → SameTold (disk.files opened) (disk.files now)
        → ((then after : Files) → disk.files opened ≡ Some then → disk.files now ≡ Some after
        → AllStay then after)
        → IfSome (outside_at now).files (λ first. Told (disk.files now) (KeepsOthers first))
    others now told stay = if_told (disk.files start) (disk.files looked)
        (λ (first : Files). Told (disk.files now) (KeepsOthers first)) still.same.files
        (λ first is.
        let then = opened_as (disk.files looked) (disk.files opened) moment base first is opens in
        let after = told_as (disk.files now) (λ f. ⊤)
        (subst (λ (o : Option Files). SameTold o (disk.files now)) then.1 told) in
        subst (λ (o : Option Files). Told o (KeepsOthers first)) (sym after.1)
        (λ name bytes apart there.
        stay then.0 after.0 then.1 after.1 name bytes
        (then.2.recovered.others name bytes apart there)))

    -- a crash leaves the first of the lines
    pub lasts_first : (now : D) (options : ApplyOptions) (ms : List Mutation) (least : ℕ)
        → ((then : Files) → disk.files opened ≡ Some then → (first : Files)
        → disk.files looked ≡ Some first → LeavesShares disk.files disk.changes disk.moment disk.since disk.leaves opened now
        (bytes_at then) base (is_some options.flush_at) options.archive options.drain
        options.writers ms least)
        → LastsFirst (outside_at now) options ms least
    unfolding written
    lasts_first now options ms least leaves = if_told (disk.files start) (disk.files looked)
        (λ (first : Files). LeavesFirst (outside_at now) options first ms least)
        still.same.files (λ first is.
        let then = opened_as (disk.files looked) (disk.files opened) moment base first is opens in
        let kept = keeps_same first then.0 then.2.recovered.same in
        let lines = leaves then.0 then.1 first is in
        let said = said_by lines.history in
        let opening = while_opened opened first (any first is) in
        record {
          log = lines.log;
          history = lines.history;
          wrote = written now options ms first is lines.log lines.wrote;
          says = lines.says;
          since = while_written disk.changes disk.moment disk.since disk.leaves disk.files start
              opened now first then.0 base (is_some options.flush_at) options.archive options.drain
              options.writers ms least kept opening lines;
          now = λ image left chance.
              adds_lines first then.0 image said least kept (lines.at_last image left chance);
          at_drain = λ none beyond image left chance.
              adds_lines first then.0 image said (length ms) kept
              (lines.at_drain (ap is_some none) beyond image left chance);
        })

    -- and where all are logged, the run's promises are kept
    pub turns_shares : (now : D) (options : ApplyOptions) (ms : List Mutation)
        (receipts : List Receipt) (cells : List (CellKey × Cell)) (report : List ℕ)
        → clock.tells at moment → length receipts ≡ length ms
        → (options.dump ≡ true → IfSome (disk.files start) (λ first. IsRestored first cells))
        → IsReport options.dump (head_with options.receipts receipts) cells ms report
        → ((then : Files) (made : List Change) → disk.files opened ≡ Some then
        → disk.changes opened ≡ Some made
        → TellsWrittenShares options base then made (disk.files now) (disk.changes now) ms receipts)
        → Turns (outside_at now) (IsRun (outside_at now) options ms report)
    turns_shares now options ms receipts cells report tells long restored is told =
        λ first made files_are changes_are.
        let there : disk.files looked ≡ Some first = still.same.files ∙ files_are in
        let then = opened_as (disk.files looked) (disk.files opened) moment base first there opens
        in
        let recovery = recovery_changes first made (disk.changes opened)
        (subst (λ (c : Option (List Change)). RecoversAll first c (disk.changes opened))
        (still.changes_are ∙ changes_are) (recovers first there)) in
        let all = told then.0 (made ++ recovery.0) then.1 recovery.1 in
        record {
          after = all.after;
          added = recovery.0 ++ all.later;
          files_are = all.files_are;
          changes_are = all.changes_are ∙ ap Some (append_assoc made recovery.0 all.later);
          is = run_of_shares (outside_at now) options first then.0 all.after recovery.0 all.later
              ms receipts moment base cells report tells then.2 recovery.2
              all.written long
              (λ dumped.
              subst (λ (o : Option Files). IfSome o (λ held. IsRestored held cells)) files_are
              (restored dumped)) is;
        }
