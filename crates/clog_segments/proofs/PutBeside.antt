-- A log stands while a table file is put beside it.
use Rattle.std.proofs.Common.{
  ◌≡◌,
  ℕ,
  List,
  Option,
  Some,
  None,
  take,
  drop,
  true,
  false,
  refl,
  sym,
  subst,
  arith,
}
use Rattle.std.specs.Prelude.{Bool, IfSome}
use Rattle.std.specs.FinMap as finmap
use Rattle.clog_spec.specs.Names.{IsTableName, segment_name_of, table_name_of}
use Rattle.clog_base.specs.declared.cell.Cell.{Cell}
use Rattle.clog_base.specs.declared.cell.CellKey.{CellKey}
use Rattle.clog_disk.specs.declared.change.Change.{Change}
use Rattle.clog_disk.specs.Files.{Files, SameTold}
use Rattle.clog_disk.specs.Images.{Elapses, IsLater, LeavesOnly, Unchanged}
use Rattle.clog_scan.specs.Cut.{Section}
use Rattle.clog_table.specs.declared.table_file.TableFile.{TableFile}
use Rattle.clog_table.specs.Refusals.{IsFileOf}
use Rattle.clog_crash.specs.Log.{Write}
use Rattle.clog_crash.specs.Readings.{Reading}
use Rattle.clog_segments.specs.declared.publishing.Published.{Published}
use Rattle.clog_segments.specs.declared.sequences.Sequences.{Sequences}
use Rattle.clog_segments.specs.AtMost.{AddsOnly, HoldsMost, IsFileAt, IsNextWithin, StandsYet}
use Rattle.clog_segments.specs.Beside.{ImagesButOne, StayButOne}
use Rattle.clog_segments.specs.Life.{HasBegun, Lives, LivesOn, MayGoOnIn, State}
use Rattle.clog_segments.specs.Numbering.{KeepsSequences}
use Rattle.clog_segments.specs.Publishes.{
  HasCome,
  IsNumbered,
  IsTrueHere,
  MayHaveCome,
  MayPut,
  file_at,
}
use Rattle.clog_segments.specs.Resting.{RestsAt, ShowsBehind}
use Rattle.clog_segments.proofs.AtMost.{free_here, most_put}
use Rattle.clog_segments.proofs.OtherFiles.{
  CountsNow,
  RestsStill,
  ShowsMeanwhile,
  broken,
  broken_on,
  end_beside,
  lives_by,
  passed,
  passed_on,
  put_wherever,
  table_aside,
}
use Rattle.clog_segments.proofs.Stays.{lasts_beside}
use Rattle.clog_segments.proofs.TablesYet.{maybe_yet, put_yet}
use Rattle.clog_segments.proofs.Torn.{stands_beside}
use Rattle.clog_segments.proofs.Untouched.{same_kept}

module _ {D : Type 0} {files : D → Option Files} {moment : D → ℕ}
    {since : D → ℕ → Files → Type 0} {leaves : D → List ℕ → Option (List ℕ) → Type 0}
    {read_at : D → ℕ → Option Reading} {lasted_at : D → ℕ → Type 0} {s shown : State D} {size : ℕ}
    {known : Option Sequences} (view : s ≡ shown)
    (keeps : HasBegun files moment since leaves read_at lasted_at s size known
    × HoldsMost files moment since leaves s)
    (runs : s.is_stopped ≡ false) (counts : CountsNow moment since leaves) {base sequence : ℕ}
    {p : Published} {cells : List (CellKey × Cell)} (numbered : IsNumbered base sequence p cells)
    (true_now : IfSome (files shown.disk) (λ f.
    IsTrueHere f shown.id (take shown.synced shown.sections) (file_at base p cells) sequence))
    (new : D) (told : SameTold (files s.disk) (files new))
    (later : IsLater moment read_at lasted_at s.disk new)
    (any_moment : (r : Reading) (past : List Write) (id : ℕ) (old kept : List Section)
    → MayPut (files s.disk) (leaves s.disk) r past id old kept (file_at base p cells) sequence
    → LeavesOnly moment since s.disk new (ShowsBehind r past id old kept)) where
  abbrev file : TableFile
  file = file_at base p cells

  abbrev own : List ℕ
  own = table_name_of p.table.0 sequence

  abbrev old : List Section
  old = take s.synced s.sections

  abbrev kept : List Section
  kept = drop s.synced s.sections

  abbrev LivingOn : State D → Type 0
  LivingOn t =
      Lives files moment since leaves read_at lasted_at shown
      → LivesOn files moment since leaves read_at lasted_at shown t

  abbrev Keeping : State D → Option Sequences → Type 0
  Keeping t now = HasBegun files moment since leaves read_at lasted_at t size now
      × HoldsMost files moment since leaves t

  -- it is at rest once the file has come
  abbrev Puts : Type 0
  Puts = (r : Reading) (past : List Write) (id : ℕ) (old kept : List Section)
      → MayPut (files s.disk) (leaves s.disk) r past id old kept file sequence
      → RestsAt (files new) (leaves new) r past id old kept

  -- or where nothing has come
  abbrev Refuses : Type 0
  Refuses = (r : Reading) (past : List Write) (id : ℕ) (old kept : List Section)
      → RestsAt (files s.disk) (leaves s.disk) r past id old kept
      → RestsAt (files new) (leaves new) r past id old kept

  named : IsTableName own p.table.0 sequence
  named = record {
    form = refl;
    table_fits = numbered.writable.table;
    sequence_starts = numbered.starts;
    sequence_fits = numbered.fits;
  }

  here : IfSome (files s.disk) (λ f. IsTrueHere f s.id old file sequence)
  here =
      subst (λ (st : State D). IfSome (files st.disk) (λ f.
      IsTrueHere f st.id (take st.synced st.sections) file sequence)) (sym view) true_now

  may : (at : ℕ) → MayGoOnIn s.id s.sections at → (r : Reading)
      → RestsAt (files s.disk) (leaves s.disk) r s.past at old kept
      → MayPut (files s.disk) (leaves s.disk) r s.past at old kept file sequence
  may at on r rests =
      put_wherever (files s.disk) (leaves s.disk) r s.past s.id size s.sections s.synced kept file
      sequence (keeps.0.ends runs) here at on rests

  any : ShowsMeanwhile files moment since leaves s new
  any at on r rests = any_moment r s.past at old kept (may at on r rests)

  aside : segment_name_of 6 s.id ≡ own → ⊥
  aside = table_aside s.id own p.table.0 sequence named s.id (omega arith) keeps.0.stored.fits

  rests_put : Puts → RestsStill files leaves s new
  rests_put puts at on r rests = puts r s.past at old kept (may at on r rests)

  rests_refused : Refuses → RestsStill files leaves s new
  rests_refused refuses at on r rests = refuses r s.past at old kept rests

  -- ---- that it lives on

  pub put_on : Puts → LivingOn (record s { disk = new })
  put_on puts =
      lives_by view (passed_on keeps.0 runs counts new told later any (rests_put puts))

  pub refused_on : Refuses → LivingOn (record s { disk = new })
  refused_on refuses =
      lives_by view (passed_on keeps.0 runs counts new told later any (rests_refused refuses))

  pub failed_on : LivingOn (record s { disk = new; is_stopped = true })
  failed_on = lives_by view (broken_on keeps.0 runs counts new told later any)

  -- ---- what it keeps

  pub refused : Refuses → Unchanged (files s.disk) (files new) (leaves s.disk) (leaves new)
      → Elapses moment since leaves read_at lasted_at s.disk new
      → Keeping (record s { disk = new }) known
  refused refuses same time =
      same_kept keeps runs counts new same.files same.images.fewer time any (rests_refused refuses)

  module _ (next_now : IsNextWithin (files shown.disk) shown.id file sequence)
      (others : StayButOne own (files s.disk) (files new))
      (adds_only : (f : Files) → files s.disk ≡ Some f → finmap.get f own ≡ None
      → AddsOnly files moment since leaves s.disk new (IsFileAt own file)) where
    next : IsNextWithin (files s.disk) s.id file sequence
    next =
        subst (λ (st : State D). IsNextWithin (files st.disk) st.id file sequence) (sym view)
        next_now

    most : (stopped : Bool) → ((g : Files) → files new ≡ Some g → (bytes : List ℕ)
        → IsFileOf file.table bytes file → StandsYet g stopped own bytes)
        → HoldsMost files moment since leaves (record s { disk = new; is_stopped = stopped })
    most stopped yet =
        most_put files moment since leaves s new file sequence stopped runs named next told
        later.no_sooner
        (λ f at. adds_only f at (free_here (files s.disk) f s.id old file sequence at here)) yet
        keeps.1

    pub put : {before after : Option (List Change)} → (now : Option Sequences) → Puts
        → (comes : HasCome (files s.disk) (files new) before after file sequence)
        → ImagesButOne own (leaves s.disk) (leaves new)
        → (KeepsSequences (files s.disk) known → KeepsSequences (files new) now)
        → Keeping (record s { disk = new }) now
    put now puts comes elsewhere knows = (
      passed keeps.0 runs counts new told later any now (rests_put puts)
          (end_beside (files s.disk) (files new) own (Some comes.bytes) s.id size s.sections
          comes.put (table_aside s.id own p.table.0 sequence named))
          (lasts_beside (segment_name_of 6 s.id) own (files s.disk) (files new) (leaves s.disk)
          (leaves new) told others elsewhere aside) knows,
      most s.is_stopped (put_yet (files s.disk) (files new) own file comes.bytes s.is_stopped
          comes.put comes.spelled),
    )

    pub failed : MayHaveCome (files s.disk) (files new) file sequence
        → Keeping (record s { disk = new; is_stopped = true }) known
    failed maybe = (
      broken keeps.0 runs counts new told later any
          (stands_beside (files s.disk) (files new) s.id s.synced s.sections own told others aside
          keeps.0.stands),
      most true (maybe_yet (files s.disk) (files new) s.id old file sequence named next here maybe),
    )
