-- How far the holder of a table's turn has got with a switch: each step keeps that it is so.
use Rattle.std.proofs.Common.{◌≡◌, ◌≢◌, ℕ, Option, Some, None, refl, ap, ◌∙◌, subst}
use Rattle.std.specs.Option.{option_map, option_and_then}
use Rattle.std.proofs.lemmas.Option.{none-some, same_Some}
use mathlib.Core.Logic.{inl, inr}
use Rattle.op_core.specs.declared.count.Order.TheVariants.{Write}
use Rattle.path_core.specs.declared.event.Event.{Event}
use Rattle.path_core.specs.declared.event.Event.TheVariants.{
  Look,
  MoveCurrent,
  Switch,
  Raise,
  Finalise,
  TakeTurn,
  GiveTurn,
}
use Rattle.path_core.specs.declared.event.Place.TheVariants.{Log}
use Rattle.path_core.specs.declared.event.SwitchPart.TheVariants.{Clear, Open, Mark}
use Rattle.path_core.specs.declared.event.Turn.TheVariants.{Flush}
use Rattle.path_core.specs.declared.seat.FlushTurn.{FlushTurn}
use Rattle.path_core.specs.declared.seat.Switching.{Switching}
use Rattle.path_core.specs.declared.seat.Switching.TheVariants.{
  Settled,
  Begun,
  Marked as MarkedStage,
  Waiting,
  WithBarrier,
}
use Rattle.path_core.specs.declared.state.PathState.{PathState}
use Rattle.path_core.specs.Parts.{seat_of, seat_table, stage_of, marked_in}
use Rattle.path_core.specs.Words.{by_of}
use Rattle.path_core.specs.Allowed.{IsStep}
use Rattle.path_core.specs.Next.{next_of}
use Rattle.path_core.specs.Lawful.{IsLawfulCore}
use Rattle.path_core.specs.LawfulOrders.{SwitchesHeld}
use Rattle.path_core.specs.LawfulTables.{SwitchesAre}
use Rattle.path_core.specs.LawfulSeats.{StageIs}
use Rattle.path_core.proofs.seats.Columns.{own_after, each_seat}
use Rattle.path_core.proofs.tables.StageStands.{
  Stands,
  Staged,
  staged_held,
  stage_stands,
  table_stands,
}
use Rattle.path_core.proofs.tables.StageOwn.{Own, looks_at_log, issues, quiet_own}
use Rattle.path_core.proofs.tables.StageSteps.{opens, marks, finalises, raises}
use Rattle.path_core.proofs.tables.StageTurns.{takes, gives}

module _ (x : PathState) (C : IsLawfulCore x) where
  -- The stages of the acting seat after its step.
  own_stages : SwitchesHeld x → (e : Event) → IsStep x e → Own x C e → (t : ℕ)
      → Staged (next_of x e) t (stage_of (own_after x e) t)
  own_stages S (Look by Log) a K t = looks_at_log x C by a K t
  own_stages S (MoveCurrent by Write group) a K t = issues x C by group a K t
  own_stages S (Switch by table m Clear) a K t =
      quiet_own x C (Switch by table m Clear) a (λ b. b) K t
  own_stages S (Switch by table m Open) a K t = opens x C by table m a K t
  own_stages S (Switch by table m Mark) a K t = marks x C by table m a K t
  own_stages S (Raise by table m to) a K t = raises x C by table m to a K t
  own_stages S (Finalise by table m) a K t = finalises x C by table m a K t
  own_stages S (TakeTurn by (Flush table)) a K t = takes x C S by table a K t
  own_stages S (GiveTurn by (Flush table)) a K t = gives x C by table a K t
  own_stages S e a K t = quiet_own x C e a (λ b. b) K t

  -- those of another seat
  other_stages : (e : Event) → IsStep x e → (w : ℕ) → w ≢ by_of e
      → ((t : ℕ) → Staged x t (stage_of (seat_of x w) t)) → (t : ℕ)
      → Staged (next_of x e) t (stage_of (seat_of x w) t)
  other_stages e a w apart K t stage h = elim (table_stands x C e a t) [
    | inl T ↦ stage_stands x C e a t T stage (K t stage h)
    | inr held ↦ absurd (apart (C.log.orders.one_holder_a_turn.one (Flush (record { 0 = t })) w
        (by_of e) (staged_held (seat_table (seat_of x w) t).flush stage h) held))
  ]

  -- Each step keeps that the stages are so.
  pub keeps_stages : SwitchesHeld x → ((w t : ℕ) → Staged x t (stage_of (seat_of x w) t))
      → (e : Event) → IsStep x e → (w t : ℕ)
      → Staged (next_of x e) t (stage_of (seat_of (next_of x e) w) t)
  keeps_stages S K e a w t = each_seat x e a.seat
      (λ _ s. Staged (next_of x e) t (stage_of s t)) (own_stages S e a (K (by_of e)) t)
      (λ v apart. other_stages e a v apart (K v) t) w

-- The stages as the invariant tells them, and as they are kept here.

weak_stage : (x : PathState) (t : ℕ) (stage : Switching) → StageIs x t stage → Stands x t stage
weak_stage x t Settled S = S
weak_stage x t (Begun m) S = S
weak_stage x t (MarkedStage k) S = tt
weak_stage x t (Waiting m) S = S
weak_stage x t (WithBarrier m group) S = S

pub staged_from : (x : PathState) (t : ℕ) (o : Option FlushTurn)
    → ((turn : FlushTurn) → o ≡ Some turn → StageIs x t turn.stage)
    → Staged x t (option_map (λ (turn : FlushTurn). turn.stage) o)
staged_from x t None known stage h = absurd (none-some stage h)
staged_from x t (Some turn) known stage h =
    subst (Stands x t) (same_Some turn.stage stage h) (weak_stage x t turn.stage (known turn refl))

pub stage_is : (x : PathState) → SwitchesAre x → (w t : ℕ) → Staged x t (stage_of (seat_of x w) t)
    → (turn : FlushTurn) → (seat_table (seat_of x w) t).flush ≡ Some turn → StageIs x t turn.stage
stage_is x W w t S turn h = by turn.stage refl
    (S turn.stage (ap (option_map (λ (turn : FlushTurn). turn.stage)) h))
  where
    by : (stage : Switching) → turn.stage ≡ stage → Stands x t stage → StageIs x t stage
    by Settled e stands = stands
    by (Begun m) e stands = stands
    by (MarkedStage k) e stands = W.marked w t k
        (ap (option_and_then (λ (turn : FlushTurn). marked_in turn.stage)) h ∙ ap marked_in e)
    by (Waiting m) e stands = stands
    by (WithBarrier m group) e stands = stands
