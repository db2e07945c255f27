-- A log goes on in a later segment: the one at hand is left, or has no section and is passed over.
use Rattle.std.proofs.Common.{
  ◌≡◌,
  ◌<◌,
  ◌^◌,
  ℕ,
  List,
  [],
  ◌∷◌,
  ◌++◌,
  length,
  Option,
  false,
  ap₂,
  sym,
  subst,
  ◌∙◌,
  arith,
}
use Rattle.clog_disk.specs.Files.{Files}
use Rattle.clog_disk.specs.Images.{IsImage}
use Rattle.clog_scan.specs.Cut.{Section}
use Rattle.clog_crash.specs.Log.{Write}
use Rattle.clog_crash.specs.Readings.{Reading}
use Rattle.clog_segments.specs.declared.sequences.Sequences.{Sequences}
use Rattle.clog_segments.specs.AtMost.{HoldsMost}
use Rattle.clog_segments.specs.Life.{HasBegun, Lives, LivesOn, State}
use Rattle.clog_segments.proofs.AtMost.{most_left, most_skipped}
use Rattle.clog_segments.proofs.Begun.{begun_rolled, begun_skipped, written}
use Rattle.clog_segments.proofs.LivedRolls.{lives_rolled, lives_skipped}
use Rattle.clog_segments.proofs.OtherFiles.{CountsNow, lives_by}

module _ {D : Type 0} {files : D → Option Files} {moment : D → ℕ}
    {since : D → ℕ → Files → Type 0} {leaves : D → List ℕ → Option (List ℕ) → Type 0}
    {read_at : D → ℕ → Option Reading} {lasted_at : D → ℕ → Type 0} {s shown : State D} {size : ℕ}
    {known : Option Sequences} (view : s ≡ shown)
    (keeps : HasBegun files moment since leaves read_at lasted_at s size known
    × HoldsMost files moment since leaves s)
    (only_now : (d : D) (image : Files) → since d (moment d) image → IsImage (leaves d) image)
    (counts : CountsNow moment since leaves) (runs_now : shown.is_stopped ≡ false) (next : ℕ)
    (above_now : shown.id < next) (fits : next < 2 ^ 63) where
  abbrev LivingOn : State D → State D → Type 0
  LivingOn t now =
      Lives files moment since leaves read_at lasted_at t
      → LivesOn files moment since leaves read_at lasted_at t now

  abbrev Keeping : State D → ℕ → Type 0
  Keeping t long =
      HasBegun files moment since leaves read_at lasted_at t long known
      × HoldsMost files moment since leaves t

  runs : s.is_stopped ≡ false
  runs = subst (λ (st : State D). st.is_stopped ≡ false) (sym view) runs_now

  above : s.id < next
  above = subst (λ (st : State D). st.id < next) (sym view) above_now

  counted : (image : Files) → IsImage (leaves s.disk) image → since s.disk (moment s.disk) image
  counted image left = counts s.disk (moment s.disk) image (omega arith) left

  -- it is left
  module _ {past reserved : List Write} {sections gone : List Section}
      (pushed : past ≡ reserved ++ written s.id gone ∷ []) (same : reserved ≡ s.past)
      (all_gone : gone ≡ s.sections) (none : sections ≡ [])
      (some : 0 < length shown.sections) (all : shown.synced ≡ length shown.sections) where
    past_is : past ≡ s.past ++ written s.id s.sections ∷ []
    past_is =
        pushed
        ∙ ap₂ (λ (l : List Write) (x : List Section). l ++ written s.id x ∷ []) same all_gone

    rolls : LivingOn s (record s { past = past; id = next; sections = sections; synced = 0 })
    rolls lives =
        subst (λ (l : List Section). LivesOn files moment since leaves read_at lasted_at s
        (record s { past = past; id = next; sections = l; synced = 0 })) (sym none)
        (subst (λ (ws : List Write). LivesOn files moment since leaves read_at lasted_at s
        (record s { past = ws; id = next; sections = []; synced = 0 })) (sym past_is)
        (lives_rolled files moment since leaves read_at lasted_at s next runs lives
        (only_now s.disk) counted above fits
        (subst (λ (st : State D). 0 < length st.sections) (sym view) some)
        (subst (λ (st : State D). st.synced ≡ length st.sections) (sym view) all)))

    pub left_on : LivingOn shown
        (record s { past = past; id = next; sections = sections; synced = 0 })
    left_on = lives_by view rolls

    pub left : Keeping (record s { past = past; id = next; sections = sections; synced = 0 }) 0
    left = (
      begun_rolled files moment since leaves read_at lasted_at s size next past sections past_is
          none above fits runs keeps.0 rolls,
      most_left files moment since leaves s next past sections runs past_is none above keeps.1,
    )

  -- it is passed over
  module _ (none_now : shown.sections ≡ []) where
    empty : s.sections ≡ []
    empty = subst (λ (st : State D). st.sections ≡ []) (sym view) none_now

    skips : LivingOn s (record s { id = next })
    skips lives =
        lives_skipped files moment since leaves read_at lasted_at s next runs lives
        (only_now s.disk) counted above fits empty

    pub skipped_on : LivingOn shown (record s { id = next })
    skipped_on = lives_by view skips

    pub skipped : Keeping (record s { id = next }) size
    skipped = (
      begun_skipped files moment since leaves read_at lasted_at s size next empty above fits runs
          keeps.0 skips,
      most_skipped files moment since leaves s next runs empty above keeps.1,
    )
