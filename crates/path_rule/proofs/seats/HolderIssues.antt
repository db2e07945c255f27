-- What the holder of the Sync turn knows after its steps of a barrier.
use Rattle.std.proofs.Common.{◌≡◌, ℕ, None, is_some, IsTrue, refl, ap}
use Rattle.std.specs.Option.{option_map}
use Rattle.op_core.specs.declared.count.Order.{Order}
use Rattle.op_core.specs.declared.count.Order.TheVariants.{Write, Append}
use Rattle.path_core.specs.declared.event.Event.TheVariants.{OpenGroup, MoveCurrent, Expire}
use Rattle.path_core.specs.declared.event.Event.TheVariants.{Advance}
use Rattle.path_core.specs.declared.seat.Issue.{Issue}
use Rattle.path_core.specs.declared.seat.Issue.TheVariants.{Rest, Opened, Moved}
use Rattle.path_core.specs.Parts.{marker_of}
use Rattle.path_rule.specs.declared.view.Hands.{Hands}
use Rattle.path_rule.specs.declared.view.View.{View}
use Rattle.path_rule.specs.Calls.{Holds}
use Rattle.path_rule.specs.Rule.{view_after, with_hands}
use Rattle.path_rule.specs.Turns.{FoundRunning, TurnSaw}
use Rattle.path_rule.proofs.seats.HolderKnows.{the_turn, marker_stays, changes, saw_after}

module _ (v : View) (w n : ℕ) where
  pub opened_held : (o : Order) (g : ℕ) → Holds Rest v
      → Holds (Opened o) (view_after v (OpenGroup w o g) n)
  opened_held Write g H = changes _ Rest (Opened Write) (λ t e. refl) v
      (view_after v (OpenGroup w Write g) n) refl refl H
  opened_held Append g H = changes _ Rest (Opened Append) (λ t e. refl) v
      (view_after v (OpenGroup w Append g) n) refl refl H

  pub opened_saw : (o : Order) (g c : ℕ) → TurnSaw o v.part c
      → TurnSaw o (view_after v (OpenGroup w o g) n).part c
  opened_saw Write g c s = saw_after _ Write v.part
      (view_after v (OpenGroup w Write g) n).part c
      (λ t. refl) refl s
  opened_saw Append g c s = saw_after _ Append v.part
      (view_after v (OpenGroup w Append g) n).part c
      (λ t. refl) refl s

  pub moved_held : (o : Order) (g : ℕ) → Holds (Opened o) v
      → Holds (Moved o) (view_after v (MoveCurrent w o g) n)
  moved_held Write g H = changes _ (Opened Write) (Moved Write) (λ t e. refl) v
      (view_after v (MoveCurrent w Write g) n) refl refl H
  moved_held Append g H = changes _ (Opened Append) (Moved Append) (λ t e. refl) v
      (view_after v (MoveCurrent w Append g) n) refl refl H

  pub moved_saw : (o : Order) (g : ℕ) → IsTrue (is_some v.part.sync)
      → TurnSaw o (view_after v (MoveCurrent w o g) n).part g
  moved_saw Write g h = let t = the_turn v.part h in (_, ap (option_map _) t.1, refl)
  moved_saw Append g h = let t = the_turn v.part h in (_, ap (option_map _) t.1, refl)

  pub expired_held : (o : Order) (g : ℕ) → Holds (Moved o) v
      → Holds Rest (view_after v (Expire w o g) n)
  expired_held Write g H = changes _ (Moved Write) Rest (λ t e. refl) v
      (view_after v (Expire w Write g) n) refl refl H
  expired_held Append g H = changes _ (Moved Append) Rest (λ t e. refl) v
      (view_after v (Expire w Append g) n) refl refl H

  pub expired_saw : (o : Order) (g c : ℕ) → TurnSaw o v.part c
      → TurnSaw o (view_after v (Expire w o g) n).part c
  expired_saw Write g c s = saw_after _ Write v.part
      (view_after v (Expire w Write g) n).part c
      (λ t. refl) refl s
  expired_saw Append g c s = saw_after _ Append v.part
      (view_after v (Expire w Append g) n).part c
      (λ t. refl) refl s

  pub advanced_held : (o : Order) (g : ℕ) (i : Issue) → Holds i v
      → Holds i (view_after v (Advance w o g) n)
  advanced_held Write g i H = changes _ i i (λ t e. e) v
      (view_after v (Advance w Write g) n) refl refl H
  advanced_held Append g i H = changes _ i i (λ t e. e) v
      (view_after v (Advance w Append g) n) refl refl H

  pub advanced_saw : (o : Order) (g c : ℕ) → TurnSaw o v.part c
      → TurnSaw o (view_after v (Advance w o g) n).part c
  advanced_saw Write g c s = saw_after _ Write v.part
      (view_after v (Advance w Write g) n).part c
      (λ t. refl) refl s
  advanced_saw Append g c s = saw_after _ Append v.part
      (view_after v (Advance w Append g) n).part c
      (λ t. refl) refl s

  pub advanced_marker : (o : Order) (g : ℕ)
      → marker_of (view_after v (Advance w o g) n).part ≡ marker_of v.part
  advanced_marker Write g = marker_stays _ v.part.sync (λ t. refl)
  advanced_marker Append g = marker_stays _ v.part.sync (λ t. refl)

  pub advanced_runs : (o : Order) (g : ℕ) → FoundRunning v.part
      → FoundRunning (view_after v (Advance w o g) n).part
  advanced_runs Write g r = (_, ap (option_map _) r.1, r.2)
  advanced_runs Append g r = (_, ap (option_map _) r.1, r.2)

  pub opened_marker : (o : Order) (g : ℕ)
      → marker_of (view_after v (OpenGroup w o g) n).part ≡ marker_of v.part
  opened_marker Write g = marker_stays _ v.part.sync (λ t. refl)
  opened_marker Append g = marker_stays _ v.part.sync (λ t. refl)

-- what it knows of its boxes may change with it
pub handed_held : {v : View} (h : Hands) (i : Issue) → Holds i v → h.box_taken ≡ None
    → Holds i (with_hands h v)
handed_held h i H empty = record { held = H.held; issue = H.issue; empty = empty }
