-- A log stands while its disk is asked what leaves all files as they are.
use Rattle.std.proofs.Common.{◌≡◌, ℕ, List, Option, take, drop, true, false, refl}
use Rattle.std.specs.Prelude.{Bool}
use Rattle.clog_spec.specs.Names.{segment_name_of}
use Rattle.clog_disk.specs.Files.{Files, SameTold}
use Rattle.clog_disk.specs.Images.{Elapses, IsImage, Unchanged, Within}
use Rattle.clog_crash.specs.Readings.{Reading}
use Rattle.clog_segments.specs.declared.sequences.Sequences.{Sequences}
use Rattle.clog_segments.specs.AtMost.{HoldsMost}
use Rattle.clog_segments.specs.Life.{HasBegun, Lives, LivesOn, State}
use Rattle.clog_segments.specs.Numbering.{KeepsSequences}
use Rattle.clog_segments.specs.Resting.{ShowsBehind}
use Rattle.clog_segments.proofs.AtMost.{most_same}
use Rattle.clog_segments.proofs.Ends.{end_same}
use Rattle.clog_segments.proofs.Kept.{rests_on, rests_show}
use Rattle.clog_segments.proofs.Lived.{same_told}
use Rattle.clog_segments.proofs.OtherFiles.{
  CountsNow,
  RestsStill,
  ShowsMeanwhile,
  broken,
  broken_on,
  passed,
  passed_on,
}
use Rattle.clog_segments.proofs.Numbering.{keeps_same}
use Rattle.clog_segments.proofs.Outcomes.{one_call}
use Rattle.clog_segments.proofs.Stays.{lasts_same}
use Rattle.clog_segments.proofs.Torn.{stands_same}

module _ {D : Type 0} {files : D → Option Files} {moment : D → ℕ}
    {since : D → ℕ → Files → Type 0} {leaves : D → List ℕ → Option (List ℕ) → Type 0}
    {read_at : D → ℕ → Option Reading} {lasted_at : D → ℕ → Type 0} {s : State D} {size : ℕ}
    {known : Option Sequences}
    (keeps : HasBegun files moment since leaves read_at lasted_at s size known
    × HoldsMost files moment since leaves s)
    (runs : s.is_stopped ≡ false) (counts : CountsNow moment since leaves) (new : D) where
  abbrev Keeping : State D → Option Sequences → Type 0
  Keeping t now =
      HasBegun files moment since leaves read_at lasted_at t size now
      × HoldsMost files moment since leaves t

  abbrev LivingOn : State D → Type 0
  LivingOn t =
      Lives files moment since leaves read_at lasted_at s
      → LivesOn files moment since leaves read_at lasted_at s t

  -- a crash leaves no more of them
  module _ (same : files new ≡ files s.disk) (fewer : Within (leaves s.disk) (leaves new))
      (time : Elapses moment since leaves read_at lasted_at s.disk new)
      (any_moment : ShowsMeanwhile files moment since leaves s new) where
    told : SameTold (files s.disk) (files new)
    told = same_told (files s.disk) (files new) same

    most : (stopped : Bool)
        → HoldsMost files moment since leaves (record s { disk = new; is_stopped = stopped })
    most stopped =
        most_same files moment since leaves read_at lasted_at s new s.sections s.synced stopped runs
        refl same fewer time keeps.1

    pub same_on : RestsStill files leaves s new → LivingOn (record s { disk = new })
    same_on rests = passed_on keeps.0 runs counts new told time.later any_moment rests

    -- what is known of sequences may be more then
    pub same_now : (now : Option Sequences) → RestsStill files leaves s new
        → (KeepsSequences (files s.disk) known → KeepsSequences (files new) now)
        → Keeping (record s { disk = new }) now
    same_now now rests knows = (
      passed keeps.0 runs counts new told time.later any_moment now rests
          (end_same (files s.disk) (files new) s.id size s.sections same)
          (lasts_same (segment_name_of 6 s.id) (files s.disk) (files new) (leaves s.disk)
          (leaves new) same (λ left is. fewer (segment_name_of 6 s.id) left is)) knows,
      most s.is_stopped,
    )

    pub same_kept : RestsStill files leaves s new → Keeping (record s { disk = new }) known
    same_kept rests = same_now known rests (keeps_same (files s.disk) (files new) known same)

    -- the disk has failed
    pub stopped_on : LivingOn (record s { disk = new; is_stopped = true })
    stopped_on = broken_on keeps.0 runs counts new told time.later any_moment

    pub stopped : Keeping (record s { disk = new; is_stopped = true }) known
    stopped = (
      broken keeps.0 runs counts new told time.later any_moment
          (stands_same (files s.disk) (files new) s.id s.synced s.sections same keeps.0.stands),
      most true,
    )

  -- nor fewer
  module _
      (only_now : (d : D) (image : Files) → since d (moment d) image → IsImage (leaves d) image)
      (same : Unchanged (files s.disk) (files new) (leaves s.disk) (leaves new))
      (time : Elapses moment since leaves read_at lasted_at s.disk new) where
    rests : RestsStill files leaves s new
    rests at on r was =
        rests_on (files s.disk) (files new) (leaves s.disk) (leaves new) r s.past at
        (take s.synced s.sections) (drop s.synced s.sections) same.files same.images.fewer was

    any_moment : ShowsMeanwhile files moment since leaves s new
    any_moment at on r was =
        one_call moment since leaves read_at lasted_at s.disk new
        (ShowsBehind r s.past at (take s.synced s.sections) (drop s.synced s.sections))
        (only_now s.disk)
        (rests_show (files s.disk) (leaves s.disk) r s.past at (take s.synced s.sections)
        (drop s.synced s.sections) was) time
        (rests_show (files new) (leaves new) r s.past at (take s.synced s.sections)
        (drop s.synced s.sections) (rests at on r was))

    pub untouched : (now : Option Sequences)
        → (KeepsSequences (files s.disk) known → KeepsSequences (files new) now)
        → Keeping (record s { disk = new }) now
    untouched now knows = same_now same.files same.images.fewer time any_moment now rests knows

    pub untouched_on : LivingOn (record s { disk = new })
    untouched_on = same_on same.files same.images.fewer time any_moment rests

    pub failed : Keeping (record s { disk = new; is_stopped = true }) known
    failed = stopped same.files same.images.fewer time any_moment

    pub failed_on : LivingOn (record s { disk = new; is_stopped = true })
    failed_on = stopped_on same.files same.images.fewer time any_moment
