-- What a barrier is issued by, and what a try to move the oldest group on answers.
use Rattle.std.specs.Prelude.{◌*◌, ◌+◌, ◌≡◌, ◌≢◌, ℕ, suc, ◌^◌, List, ◌++◌, map, length}
use Rattle.std.specs.List.{Contains}
use Rattle.op_core.specs.declared.count.Order.{Order}
use Rattle.path_core.specs.declared.event.Event.TheVariants.{Advance as AdvanceStep, Expire}
use Rattle.path_core.specs.declared.event.Event.TheVariants.{MoveCurrent}
use Rattle.path_core.specs.declared.event.Place.TheVariants.{Count, Oldest}
use Rattle.path_rule.specs.declared.view.OwnStep.{OwnStep}
use Rattle.path_rule.specs.declared.view.View.{View}
use Rattle.path_rule.specs.Calls.{Did, FoundSince, acts}
use Rattle.path_rule.specs.Rule.{event_of}
use Rattle.path_rounds.specs.declared.advancing.Advance.{Advance}
use Rattle.path_rounds.specs.declared.advancing.Advance.TheVariants.{Moved, Running}

-- Seat w issued a barrier of an order, that of this group: behind its earlier steps it made the
-- next group the current one, and expired this one.
pub record HasIssued (o : Order) (w group : ℕ) (v after : View) : Type 0 where
  pub newer : List OwnStep
  pub trail : after.trail ≡ newer ++ v.trail
  pub moved : Contains (map event_of newer) (MoveCurrent w o (suc group))
  pub expired : Contains (map event_of newer) (Expire w o group)

abbrev pub MatchAdvance : Advance → (ℕ → Type 0) → (ℕ → ℕ → Type 0) → Type 0
MatchAdvance (Moved group) P Q = P group
MatchAdvance (Running group count) P Q = Q group count

-- Seat w moved the oldest group of an order on to this one, by its last step, and only looked
-- before. In this call it found the group before it the oldest, and that one's count finished.
pub record HasMovedOn (o : Order) (w group : ℕ) (v after : View) : Type 0 where
  pub before : ℕ
  pub next : group ≡ suc before
  pub oldest : FoundSince (length v.trail) (Oldest o) before after.trail
  pub finished : FoundSince (length v.trail) (Count o before) (65536 * before + 2 ^ 63) after.trail
  -- what it knew before its last step
  pub looked : View
  pub only : acts looked.trail ≡ acts v.trail
  pub did : Did looked w (AdvanceStep w o group) group after

-- The oldest group of an order runs still: the seat found it the oldest in this call, and this as
-- its count, and only looked.
pub record RunsStill (o : Order) (group count : ℕ) (v after : View) : Type 0 where
  pub oldest : FoundSince (length v.trail) (Oldest o) group after.trail
  pub found : FoundSince (length v.trail) (Count o group) count after.trail
  pub unfinished : count ≢ 65536 * group + 2 ^ 63
  pub only : acts after.trail ≡ acts v.trail
