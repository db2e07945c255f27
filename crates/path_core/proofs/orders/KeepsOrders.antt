-- Counts stand for the seats in their groups, and each turn has one holder: each allowed step keeps
-- it.
use Rattle.std.proofs.Common.{ℕ, IsSome, refl, sym, ◌∙◌, subst}
use Rattle.std.proofs.lemmas.Option.{none-some}
use Rattle.clog_base.specs.declared.position.Key.{Key}
use Rattle.path_core.specs.declared.event.ClaimKind.TheVariants.{Entry, Marker}
use Rattle.path_core.specs.declared.event.Event.{Event}
use Rattle.path_core.specs.declared.event.Event.TheVariants.{
  Look,
  Register,
  Close,
  OpenGroup,
  MoveCurrent,
  Expire,
  Advance,
  Claim,
  Switch,
  Raise,
  Finalise,
  TakeTurn,
  GiveTurn,
  Put,
}
use Rattle.path_core.specs.declared.event.Turn.{Turn}
use Rattle.path_core.specs.declared.event.Turn.TheVariants.{Sync, Flush}
use Rattle.path_core.specs.declared.seat.Issue.{Issue}
use Rattle.path_core.specs.declared.seat.Issue.TheVariants.{Rest}
use Rattle.path_core.specs.declared.state.PathState.{PathState}
use Rattle.path_core.specs.Parts.{seat_of}
use Rattle.path_core.specs.Allowed.{IsStep}
use Rattle.path_core.specs.Next.{next_of}
use Rattle.path_core.specs.Lawful.{IsSized}
use Rattle.path_core.specs.LawfulOrders.{TurnsHeld, IsOrderly}
use Rattle.path_core.proofs.orders.HeldTurns.{turns_left, turns_stay, issue_known, issue_is_held}
use Rattle.path_core.proofs.orders.TurnTaken.{turns_taken}
use Rattle.path_core.proofs.orders.OtherSteps.{
  nest_stays,
  columns_of,
  quiet,
  idle_where_same,
  orders_stay,
}
use Rattle.path_core.proofs.orders.Issues.{issue_is, opens, moves}
use Rattle.path_core.proofs.orders.Expires.{expires, advances}
use Rattle.path_core.proofs.lists.Options.{none_is_not_some}
use Rattle.path_core.proofs.orders.Registers.{registers}
use Rattle.path_core.proofs.orders.Closes.{closes}

module _ (x : PathState) (sized : IsSized x) (O : IsOrderly x) where
  abbrev i : Issue
  i = O.issue

  abbrev T : TurnsHeld i x.seats
  T = O.one_holder_a_turn

  takes : (by : ℕ) (turn : Turn) → IsStep x (TakeTurn by turn)
      → IsOrderly (next_of x (TakeTurn by turn))
  takes by turn a = let e = TakeTurn by turn in let C = columns_of x sized O e a.is_there in
      orders_stay x sized O e a.seat C refl refl refl refl
      (turns_taken x by turn a.seat C i T a.row.0 a.row.1)
      (nest_stays x sized O e _ _ C (O.orders_nest by) refl refl refl refl)

  gives : (by : ℕ) (turn : Turn) → IsStep x (GiveTurn by turn)
      → IsOrderly (next_of x (GiveTurn by turn))
  gives by (Flush table) a = quiet x sized O (GiveTurn by (Flush table)) a
      (λ b. b) refl refl refl refl refl refl refl
  gives by Sync a = let e = GiveTurn by Sync in let C = columns_of x sized O e a.is_there in
      let held = issue_is_held (seat_of x by) Rest a.row.1 a.row.0 in
      let rest = issue_is x sized O by Rest held in
      orders_stay x sized O e a.seat C refl refl refl refl
      (turns_stay x e a.seat C i i T (λ b. b)
      (λ k h. absurd (none-some k h))
      (λ w _ k h. issue_known i x.seats T w k h)
      (λ _. rest)
      (idle_where_same x sized O e a.seat refl refl))
      (nest_stays x sized O e _ _ C (O.orders_nest by) refl refl refl refl)

  claims : (by : ℕ) (from to : Key) → (a : IsStep x (Claim by from to Entry))
      → IsOrderly (next_of x (Claim by from to Entry))
  claims by from to a = let e = Claim by from to Entry in
      let C = columns_of x sized O e a.is_there in
      let N = O.orders_nest by in
      orders_stay x sized O e a.seat C refl refl refl refl
      (turns_left x e a.seat C i T (λ b. b) refl (idle_where_same x sized O e a.seat refl refl))
      (record {
        append = λ g h. subst IsSome (sym C.write) a.row.0;
        claim = λ r h. subst IsSome (sym C.write) a.row.0;
        undeposited = λ r h n. subst IsSome (sym C.append) a.row.1;
        deposited = λ t h. absurd (none_is_not_some (N.deposited t (sym C.note ∙ h)).0 a.row.1);
      })

  -- Each allowed step keeps that groups and turns are in order.
  pub keeps_orders : (e : Event) → IsStep x e → IsOrderly (next_of x e)
  keeps_orders (Look by at) a = quiet x sized O (Look by at) a
      (λ b. b) refl refl refl refl refl refl refl
  keeps_orders (Register by o g) a = registers x sized O by o g a
  keeps_orders (Close by o g carried) a = closes x sized O by g o carried a
  keeps_orders (OpenGroup by o g) a = opens x sized O by o g a
  keeps_orders (MoveCurrent by o g) a = moves x sized O by o g a
  keeps_orders (Expire by o g) a = expires x sized O by o g a
  keeps_orders (Advance by o g) a = advances x sized O by o g a
  keeps_orders (Claim by from to Entry) a = claims by from to a
  keeps_orders (Claim by from to Marker) a =
      quiet x sized O (Claim by from to Marker) a (λ b. b) refl refl refl refl refl refl refl
  keeps_orders (Switch by table memtable part) a =
      quiet x sized O (Switch by table memtable part) a (λ b. b) refl refl refl refl refl refl refl
  keeps_orders (Raise by table memtable to) a =
      quiet x sized O (Raise by table memtable to) a (λ b. b) refl refl refl refl refl refl refl
  keeps_orders (Finalise by table memtable) a =
      quiet x sized O (Finalise by table memtable) a (λ b. b) refl refl refl refl refl refl refl
  keeps_orders (TakeTurn by turn) a = takes by turn a
  keeps_orders (GiveTurn by turn) a = gives by turn a
  keeps_orders (Put by cursor value) a =
      quiet x sized O (Put by cursor value) a (λ b. b) refl refl refl refl refl refl refl
