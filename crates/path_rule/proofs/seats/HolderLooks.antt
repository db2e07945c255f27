-- What the holder of the Sync turn knows after it looked at the groups of an order.
use Rattle.std.proofs.Common.{◌<◌, ◌*◌, ◌+◌, ◌≡◌, ℕ, ◌^◌, Bool, true, false, is_some, Some, IsTrue}
use Rattle.std.proofs.Common.{refl, sym, ap, subst}
use Rattle.std.specs.Prelude.{if◌then◌else◌}
use Rattle.std.specs.Option.{option_map}
use Rattle.op_core.specs.Tallies.{is_finished}
use Rattle.op_core.specs.declared.count.Order.{Order}
use Rattle.op_core.specs.declared.count.Order.TheVariants.{Write, Append}
use Rattle.path_core.specs.declared.event.Event.TheVariants.{Look}
use Rattle.path_core.specs.declared.event.Place.TheVariants.{Count, Current, Oldest}
use Rattle.path_core.specs.declared.seat.Issue.{Issue}
use Rattle.path_core.specs.Parts.{found_of, marker_of}
use Rattle.path_core.specs.SeatParts.{keeps, finished_found}
use Rattle.path_rule.specs.declared.view.View.{View}
use Rattle.path_rule.specs.Calls.{Holds}
use Rattle.op_core.specs.CountWords.{tally_in}
use Rattle.path_rule.specs.Rule.{view_after}
use Rattle.path_rule.specs.Turns.{FoundRunning, TurnSaw, TurnOld, TurnGone}
use Rattle.path_rule.proofs.seats.HolderKnows.{the_turn, marker_stays, changes, is_gone, saw_after}
use Rattle.path_rule.proofs.seats.HolderKnows.{old_after}

module _ (v : View) (w n : ℕ) where
  pub current_held : (o : Order) (i : Issue) → Holds i v
      → Holds i (view_after v (Look w (Current o)) n)
  current_held Write i H = changes _ i i (λ t e. e) v
      (view_after v (Look w (Current Write)) n) refl refl H
  current_held Append i H = changes _ i i (λ t e. e) v
      (view_after v (Look w (Current Append)) n) refl refl H

  pub current_saw : (o : Order) → IsTrue (is_some v.part.sync)
      → TurnSaw o (view_after v (Look w (Current o)) n).part n
  current_saw Write h = let t = the_turn v.part h in (_, ap (option_map _) t.1, refl)
  current_saw Append h = let t = the_turn v.part h in (_, ap (option_map _) t.1, refl)

  pub current_runs : (o : Order) → FoundRunning v.part
      → FoundRunning (view_after v (Look w (Current o)) n).part
  current_runs Write r = (_, ap (option_map _) r.1, r.2)
  current_runs Append r = (_, ap (option_map _) r.1, r.2)

  pub oldest_held : (o : Order) (i : Issue) → Holds i v
      → Holds i (view_after v (Look w (Oldest o)) n)
  oldest_held Write i H = changes _ i i (λ t e. e) v
      (view_after v (Look w (Oldest Write)) n) refl refl H
  oldest_held Append i H = changes _ i i (λ t e. e) v
      (view_after v (Look w (Oldest Append)) n) refl refl H

  pub oldest_saw : (o : Order) (c : ℕ) → TurnSaw o v.part c
      → TurnSaw o (view_after v (Look w (Oldest o)) n).part c
  oldest_saw Write c s = saw_after _ Write v.part
      (view_after v (Look w (Oldest Write)) n).part c
      (λ t. refl) refl s
  oldest_saw Append c s = saw_after _ Append v.part
      (view_after v (Look w (Oldest Append)) n).part c
      (λ t. refl) refl s

  pub oldest_old : (o : Order) → IsTrue (is_some v.part.sync)
      → TurnOld o (view_after v (Look w (Oldest o)) n).part n
  oldest_old Write h = let t = the_turn v.part h in (_, ap (option_map _) t.1, refl)
  oldest_old Append h = let t = the_turn v.part h in (_, ap (option_map _) t.1, refl)

  pub oldest_seen : (o : Order)
      → (found_of o (view_after v (Look w (Oldest o)) n).part).oldest ≡ Some n
  oldest_seen Write = refl
  oldest_seen Append = refl

  pub count_held : (o : Order) (g : ℕ) (i : Issue) → Holds i v
      → Holds i (view_after v (Look w (Count o g)) n)
  count_held Write g i H = by (is_finished (tally_in n))
    where
      by : (b : Bool) → Holds i (record
          (view_after v (Look w (Count Write g)) n)
          { part = if b then keeps Write (finished_found g) v.part else v.part })
      by true = changes _ i i (λ t e. e) v
          (record (view_after v (Look w (Count Write g)) n)
          { part = keeps Write (finished_found g) v.part }) refl refl H
      by false = record { held = H.held; issue = H.issue; empty = H.empty }
  count_held Append g i H = by (is_finished (tally_in n))
    where
      by : (b : Bool) → Holds i (record
          (view_after v (Look w (Count Append g)) n)
          { part = if b then keeps Append (finished_found g) v.part else v.part })
      by true = changes _ i i (λ t e. e) v
          (record (view_after v (Look w (Count Append g)) n)
          { part = keeps Append (finished_found g) v.part }) refl refl H
      by false = record { held = H.held; issue = H.issue; empty = H.empty }

  pub count_saw : (o : Order) (g c : ℕ) → TurnSaw o v.part c
      → TurnSaw o (view_after v (Look w (Count o g)) n).part c
  count_saw Write g c s = by (is_finished (tally_in n))
    where
      by : (b : Bool) → TurnSaw Write (if b then keeps Write (finished_found g) v.part else v.part)
          c
      by true = saw_after _ Write v.part (keeps Write (finished_found g) v.part) c
          (λ t. refl) refl s
      by false = s
  count_saw Append g c s = by (is_finished (tally_in n))
    where
      by : (b : Bool) → TurnSaw Append (if b then keeps Append
          (finished_found g) v.part else v.part)
          c
      by true = saw_after _ Append v.part (keeps Append (finished_found g) v.part) c
          (λ t. refl) refl s
      by false = s

  pub count_old : (o : Order) (g c : ℕ) → TurnOld o v.part c
      → TurnOld o (view_after v (Look w (Count o g)) n).part c
  count_old Write g c s = by (is_finished (tally_in n))
    where
      by : (b : Bool) → TurnOld Write (if b then keeps Write (finished_found g) v.part else v.part)
          c
      by true = old_after _ Write v.part (keeps Write (finished_found g) v.part) c
          (λ t. refl) refl s
      by false = s
  count_old Append g c s = by (is_finished (tally_in n))
    where
      by : (b : Bool) → TurnOld Append (if b then keeps Append
          (finished_found g) v.part else v.part)
          c
      by true = old_after _ Append v.part (keeps Append (finished_found g) v.part) c
          (λ t. refl) refl s
      by false = s

  pub count_gone : (o : Order) (g : ℕ) → g < 2 ^ 47 → n ≡ 65536 * g + 2 ^ 63
      → IsTrue (is_some v.part.sync)
      → TurnGone o (view_after v (Look w (Count o g)) n).part g
  count_gone Write g low e h = subst (λ b. TurnGone Write
      (if b then keeps Write (finished_found g) v.part else v.part) g) (sym (is_gone n g low e))
      (let t = the_turn v.part h in (_, ap (option_map _) t.1, refl))
  count_gone Append g low e h = subst (λ b. TurnGone Append
      (if b then keeps Append (finished_found g) v.part else v.part) g) (sym (is_gone n g low e))
      (let t = the_turn v.part h in (_, ap (option_map _) t.1, refl))

  pub oldest_marker : (o : Order)
      → marker_of (view_after v (Look w (Oldest o)) n).part ≡ marker_of v.part
  oldest_marker Write = marker_stays _ v.part.sync (λ t. refl)
  oldest_marker Append = marker_stays _ v.part.sync (λ t. refl)

  pub oldest_runs : (o : Order) → FoundRunning v.part
      → FoundRunning (view_after v (Look w (Oldest o)) n).part
  oldest_runs Write r = (_, ap (option_map _) r.1, r.2)
  oldest_runs Append r = (_, ap (option_map _) r.1, r.2)

  pub count_marker : (o : Order) (g : ℕ)
      → marker_of (view_after v (Look w (Count o g)) n).part ≡ marker_of v.part
  count_marker o g = by (is_finished (tally_in n))
    where
      gone : (o : Order) → marker_of (keeps o (finished_found g) v.part) ≡ marker_of v.part
      gone Write = marker_stays _ v.part.sync (λ t. refl)
      gone Append = marker_stays _ v.part.sync (λ t. refl)

      by : (b : Bool) → marker_of (if b then keeps o (finished_found g) v.part else v.part)
          ≡ marker_of v.part
      by true = gone o
      by false = refl

  pub count_runs : (o : Order) (g : ℕ) → FoundRunning v.part
      → FoundRunning (view_after v (Look w (Count o g)) n).part
  count_runs o g r = by (is_finished (tally_in n))
    where
      gone : (o : Order) → FoundRunning (keeps o (finished_found g) v.part)
      gone Write = (_, ap (option_map _) r.1, r.2)
      gone Append = (_, ap (option_map _) r.1, r.2)

      by : (b : Bool) → FoundRunning (if b then keeps o (finished_found g) v.part else v.part)
      by true = gone o
      by false = r

  pub current_marker : (o : Order)
      → marker_of (view_after v (Look w (Current o)) n).part ≡ marker_of v.part
  current_marker Write = marker_stays _ v.part.sync (λ t. refl)
  current_marker Append = marker_stays _ v.part.sync (λ t. refl)
