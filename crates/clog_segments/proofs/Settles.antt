-- The disk of a log is asked to make the segment at hand last.
use Rattle.std.proofs.Common.{
  ◌≡◌,
  ℕ,
  ◌<◌,
  List,
  [],
  ◌++◌,
  length,
  Option,
  take,
  drop,
  true,
  false,
  refl,
  sym,
  subst,
  ◌∙◌,
  arith,
}
use Rattle.std.proofs.lemmas.Bool.{true≢false}
use Rattle.std.proofs.lemmas.Bool.Decides.{nat_tests}
use Rattle.clog_spec.specs.Names.{segment_name_of}
use Rattle.clog_disk.specs.Files.{Files, SameTold}
use Rattle.clog_disk.specs.Images.{Elapses, IsImage, Lasts, LeavesOnly, Within}
use Rattle.clog_scan.specs.Cut.{Section}
use Rattle.clog_crash.specs.Log.{Write}
use Rattle.clog_crash.specs.Readings.{Reading}
use Rattle.clog_segments.specs.declared.sequences.Sequences.{Sequences}
use Rattle.clog_segments.specs.AtMost.{HoldsMost}
use Rattle.clog_segments.specs.Life.{HasBegun, Lives, LivesOn, State}
use Rattle.clog_segments.specs.Resting.{RestsAt, ShowsBehind}
use Rattle.clog_segments.proofs.Anywhere.{here_only}
use Rattle.clog_segments.proofs.AtMost.{most_same}
use Rattle.clog_segments.proofs.Begun.{begun_on}
use Rattle.clog_segments.proofs.Ends.{end_same}
use Rattle.clog_segments.proofs.Lived.{same_told}
use Rattle.clog_segments.proofs.LivedCalls.{lives_settled}
use Rattle.clog_segments.proofs.Numbering.{keeps_same}
use Rattle.clog_segments.proofs.OtherFiles.{CountsNow, RestsStill, ShowsMeanwhile}
use Rattle.clog_segments.proofs.Untouched.{same_kept, same_on, stopped, stopped_on}

module _ {D : Type 0} {files : D → Option Files} {moment : D → ℕ}
    {since : D → ℕ → Files → Type 0} {leaves : D → List ℕ → Option (List ℕ) → Type 0}
    {read_at : D → ℕ → Option Reading} {lasted_at : D → ℕ → Type 0} {s : State D} {size : ℕ}
    {known : Option Sequences}
    (keeps : HasBegun files moment since leaves read_at lasted_at s size known
    × HoldsMost files moment since leaves s)
    (runs : s.is_stopped ≡ false) (counts : CountsNow moment since leaves)
    {count : ℕ} (all : count ≡ length s.sections) (short : s.synced ≡ count → ⊥) (new : D)
    (same : files new ≡ files s.disk) (fewer : Within (leaves s.disk) (leaves new))
    (time : Elapses moment since leaves read_at lasted_at s.disk new)
    (any_moment : (r : Reading) (past : List Write) (old kept : List Section)
    → RestsAt (files s.disk) (leaves s.disk) r past s.id old kept
    → LeavesOnly moment since s.disk new (ShowsBehind r past s.id old kept)) where
  abbrev old : List Section
  old = take s.synced s.sections

  abbrev kept : List Section
  kept = drop s.synced s.sections

  abbrev LivingOn : State D → Type 0
  LivingOn t =
      Lives files moment since leaves read_at lasted_at s
      → LivesOn files moment since leaves read_at lasted_at s t

  abbrev Keeping : State D → Type 0
  Keeping t =
      HasBegun files moment since leaves read_at lasted_at t size known
      × HoldsMost files moment since leaves t

  -- it is at rest with all sections lasting, or as before
  abbrev Lasting : Type 0
  Lasting = (r : Reading) (past : List Write) (old kept : List Section)
      → RestsAt (files s.disk) (leaves s.disk) r past s.id old kept
      → RestsAt (files new) (leaves new) r past s.id (old ++ kept) []

  abbrev Refuses : Type 0
  Refuses = (r : Reading) (past : List Write) (old kept : List Section)
      → RestsAt (files s.disk) (leaves s.disk) r past s.id old kept
      → RestsAt (files new) (leaves new) r past s.id old kept

  told : SameTold (files s.disk) (files new)
  told = same_told (files s.disk) (files new) same

  some : 0 < length s.sections
  some =
      let few = keeps.0.few in
      grind (arith, nat_tests)

  counted : (image : Files) → IsImage (leaves new) image → since new (moment s.disk) image
  counted image left = counts new (moment s.disk) image time.later.no_sooner left

  any : ShowsMeanwhile files moment since leaves s new
  any =
      here_only s.id s.sections (λ at. (r : Reading)
      → RestsAt (files s.disk) (leaves s.disk) r s.past at old kept
      → LeavesOnly moment since s.disk new (ShowsBehind r s.past at old kept)) some
      (λ r rests. any_moment r s.past old kept rests)

  rests_on : Refuses → RestsStill files leaves s new
  rests_on refuses =
      here_only s.id s.sections (λ at. (r : Reading)
      → RestsAt (files s.disk) (leaves s.disk) r s.past at old kept
      → RestsAt (files new) (leaves new) r s.past at old kept) some
      (λ r rests. refuses r s.past old kept rests)

  -- ---- that it lives on

  pub settled_on : {n : ℕ} → n ≡ length s.sections → Lasting
      → LivingOn (record s { disk = new; synced = n })
  settled_on whole lasting lives =
      subst (λ (k : ℕ). LivesOn files moment since leaves read_at lasted_at s
      (record s { disk = new; synced = k })) (sym whole)
      (lives_settled files moment since leaves read_at lasted_at s new runs lives counted told
      time.later any some (λ r rests. lasting r s.past old kept rests))

  pub refused_on : Refuses → LivingOn (record s { disk = new })
  refused_on refuses =
      same_on keeps runs counts new same fewer time any (rests_on refuses)

  pub failed_on : LivingOn (record s { disk = new; is_stopped = true })
  failed_on = stopped_on keeps runs counts new same fewer time any

  -- ---- what it keeps

  pub refused : Refuses → Keeping (record s { disk = new })
  refused refuses = same_kept keeps runs counts new same fewer time any (rests_on refuses)

  pub failed : Keeping (record s { disk = new; is_stopped = true })
  failed = stopped keeps runs counts new same fewer time any

  pub settled : {n : ℕ} → n ≡ length s.sections → Lasting
      → Lasts (files s.disk) (leaves new) (segment_name_of 6 s.id)
      → Keeping (record s { disk = new; synced = n })
  settled {n} whole lasting here = (
    begun_on files moment since leaves read_at lasted_at s size new s.sections n s.is_stopped size
        known keeps.0 time.later (omega (arith, whole)) keeps.0.stored
        (λ going. end_same (files s.disk) (files new) s.id size s.sections same
        (keeps.0.ends going))
        (λ stopped. absurd (true≢false (sym stopped ∙ runs)))
        (λ going least each. subst (λ (o : Option Files).
        Lasts o (leaves new) (segment_name_of 6 s.id)) (sym same) here)
        (λ going. keeps_same (files s.disk) (files new) known same (keeps.0.sequences going))
        (settled_on whole lasting),
    most_same files moment since leaves read_at lasted_at s new s.sections n s.is_stopped runs refl
        same fewer time keeps.1,
  )
