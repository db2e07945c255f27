-- What the calls say of a seat's view before and after.
use Rattle.std.specs.Prelude.{◌≡◌, ◌≢◌, ◌⊎◌, ℕ, suc, ◌+◌, ◌<◌, ◌≤◌, ◌^◌, false, cond, Bool, true}
use Rattle.std.specs.Prelude.{List, [], ◌∷◌, length, Some, None, is_some, IsTrue}
use Rattle.op_core.specs.CountWords.{number_in}
use Rattle.op_core.specs.declared.count.Order.{Order}
use Rattle.path_core.specs.declared.event.Event.{Event}
use Rattle.path_core.specs.declared.event.Event.TheVariants.{Look, Register}
use Rattle.path_core.specs.declared.event.Place.{Place}
use Rattle.path_core.specs.declared.event.Place.TheVariants.{Count, Current}
use Rattle.path_core.specs.declared.seat.Issue.{Issue}
use Rattle.path_core.specs.declared.seat.Issue.TheVariants.{Rest}
use Rattle.path_core.specs.declared.seat.SyncTurn.{SyncTurn}
use Rattle.path_core.specs.Next.{has_filed}
use Rattle.path_core.specs.Parts.{issue_of}
use Rattle.path_core.specs.Words.{place_of}
use Rattle.path_rule.specs.declared.view.Hands.{Hands}
use Rattle.path_rule.specs.declared.view.OwnStep.{OwnStep}
use Rattle.path_rule.specs.declared.view.View.{View}
use Rattle.path_rule.specs.Rule.{view_after, view_filed, with_hands, Was}
use Rattle.path_rule.specs.Turns.{TurnOld}

-- Seat w made the step e, at which n was found or stored; h is what it knows of its boxes then.
pub record DidAs (v : View) (w : ℕ) (e : Event) (n : ℕ) (h : Hands) (after : View) : Type 0 where
  pub view : after ≡ view_after (with_hands h v) e n
  pub was : Was v w e

-- the same where the step gave a table file, which begins above a key
pub record FiledAs (v : View) (w : ℕ) (e : Event) (n lower : ℕ) (h : Hands) (after : View)
    : Type 0 where
  pub view : after ≡ view_filed (with_hands h v) e n lower
  pub was : Was v w e

-- the same where it knows of them what it knew
pub record Did (v : View) (w : ℕ) (e : Event) (n : ℕ) (after : View) : Type 0 where
  pub view : after ≡ view_after v e n
  pub was : Was v w e

-- whether a step is no look
abbrev pub is_act : Event → Bool
is_act (Look by at) = false
is_act _ = true

-- how many steps other than looks were made
abbrev pub acts : List OwnStep → ℕ
acts [] = 0
acts (t ∷ ts) = cond (is_act t.event) (suc (acts ts)) (acts ts)

-- The number n was found or stored at this place, at a step whose number is above `before`.
abbrev pub FoundSince : ℕ → Place → ℕ → List OwnStep → Type 0
FoundSince before at n [] = ⊥
FoundSince before at n (t ∷ ts) = ((before ≤ length ts) × (place_of t.event ≡ at) × (t.found ≡ n))
    ⊎ FoundSince before at n ts

-- the view after a look at the current group of an order, which found g, and one at the word of its
-- count, which found k: the count of the group whose number stands there
abbrev pub looked_twice : View → ℕ → Order → ℕ → ℕ → View
looked_twice v w o g k = view_after (view_after v (Look w (Current o)) g)
    (Look w (Count o (number_in k))) k

-- Seat w registered in group g, whose count it had found to be `looked`.
pub record Started (v : View) (w : ℕ) (o : Order) (g : ℕ) (after : View) : Type 0 where
  pub looked : ℕ
  pub did : Did (looked_twice v w o g looked) w (Register w o g) (looked + 1) after

-- Seat w only looked: it found the word `looked`, which is expired or of another group, or then the
-- word `found`, which is another.
pub record Refused (v : View) (w : ℕ) (o : Order) (looked found : ℕ) (after : View) : Type 0 where
  pub group : ℕ
  pub view : (after ≡ looked_twice v w o group looked)
      ⊎ (after ≡ view_after (looked_twice v w o group looked) (Look w (Count o (number_in found)))
      found)
  pub cause : (2 ^ 63 ≤ looked) ⊎ (number_in looked ≢ group) ⊎ (found ≢ looked)

-- The seat holds the Sync turn, with no box of another seat, at this issue.
pub record Holds (i : Issue) (v : View) : Type 0 where
  pub held : IsTrue (is_some v.part.sync)
  pub issue : issue_of v.part ≡ i
  pub empty : v.hands.box_taken ≡ None

-- The seat holds the Sync turn, with no barrier under way and no box of another seat, and filed
-- nothing while it held it: with the desk it may give the turn back.
pub record MayGive (v : View) : Type 0 where
  pub holds : Holds Rest v
  pub unfiled : has_filed v.part ≡ false

-- the synced key, which the holder of the turn put or found, is at or above this one
abbrev pub IsSyncedTo : View → ℕ → Type 0
IsSyncedTo v upto = (t : SyncTurn) × (k : ℕ) × (v.part.sync ≡ Some t) × (t.synced ≡ Some k)
    × (upto ≤ k)

-- The barrier of a group is passed: the seat found, or put, a later one as the oldest.
abbrev pub IsPast : Order → View → ℕ → Type 0
IsPast o v g = (h : ℕ) × TurnOld o v.part h × (g < h)
