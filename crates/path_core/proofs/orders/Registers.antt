-- A seat enters an open group that it found as current: groups and turns stay in order.
use Rattle.std.proofs.Common.{ℕ, is_some, IsSome, refl, sym, ap, ◌∙◌, subst, length-set}
use Rattle.std.proofs.lemmas.Bool.{false≢true}
use Rattle.op_core.specs.declared.count.Order.{Order}
use Rattle.op_core.specs.declared.count.Order.TheVariants.{Write, Append}
use Rattle.path_core.specs.declared.event.Event.TheVariants.{Register}
use Rattle.path_core.specs.declared.event.Turn.{Turn}
use Rattle.path_core.specs.declared.event.Turn.TheVariants.{Sync, Flush}
use Rattle.path_core.specs.declared.seat.Issue.{Issue}
use Rattle.path_core.specs.declared.state.PathState.{PathState}
use Rattle.path_core.specs.Parts.{groups_of, seat_of, HoldsTurn, HoldsNoTurn}
use Rattle.path_core.specs.Allowed.{IsStep}
use Rattle.path_core.specs.Next.{next_of}
use Rattle.path_core.specs.Lawful.{IsSized}
use Rattle.path_core.specs.LawfulOrders.{CountsOf, MadeOf, TurnsHeld, OrdersNest, IsOrderly}
use Rattle.path_core.proofs.seats.Columns.{each_seat, own_after}
use Rattle.path_core.proofs.orders.Groups.{counts_enter}
use Rattle.path_core.proofs.orders.HeldTurns.{turns_left}
use Rattle.path_core.proofs.orders.OtherSteps.{
  made_stay,
  columns_of,
  counts_other,
  made_other,
  both,
}
use Rattle.path_core.proofs.lists.Options.{none_is_not_some}

module _ (x : PathState) (sized : IsSized x) (O : IsOrderly x) where
  abbrev i : Issue
  i = O.issue

  abbrev T : TurnsHeld i x.seats
  T = O.one_holder_a_turn

  -- Register: the seat enters an open group that it found as current.

  no_holder : (by : ℕ) → HoldsNoTurn (seat_of x by) → (turn : Turn)
      → HoldsTurn (seat_of x by) turn → ⊥
  no_holder by none Sync h = false≢true (sym (ap (λ o. is_some o) none.sync) ∙ h)
  no_holder by none (Flush t) h = false≢true (sym (ap (λ o. is_some o) (none.flush t.0)) ∙ h)

  pub registers : (by : ℕ) (o : Order) (g : ℕ) → IsStep x (Register by o g)
      → IsOrderly (next_of x (Register by o g))
  registers by Write g a = let e = Register by Write g in
      let C = columns_of x sized O e a.is_there in
      let s = seat_of x by in
      let N = O.orders_nest by in
      let row = a.row in
      record {
        issue = i;
        counts_stand_for_seats = both (λ o. CountsOf i o (groups_of (next_of x e) o)
            (next_of x e).seats)
            (counts_enter i Write x.write x.seats by (own_after x e) a.seat
            (O.counts_stand_for_seats Write) g a.is_there ((O.made_groups Write).found by g row.2)
            row.3 row.1.write C.write)
            (counts_other x sized O e a.seat Append i i refl
            (record { moved = λ e. e; moved_before = λ e. e; opened_before = λ e. e }) C.append);
        made_groups = both (λ o. MadeOf i o (groups_of (next_of x e) o) (next_of x e).seats)
            (made_stay x sized O e a.seat Write i _ refl
            (length-set x.write.tallies g _ ∙ (O.made_groups Write).made)
            (O.made_groups Write).oldest)
            (made_other x sized O e a.seat Append i i refl refl);
        one_holder_a_turn = turns_left x e a.seat C i T (λ b. b) refl
            (λ turn h. absurd (no_holder by row.0 turn h));
        orders_nest = each_seat x e a.seat (λ _ s. OrdersNest s) (record {
          append = λ h q. subst IsSome (sym C.write) refl;
          claim = λ r h. subst IsSome (sym C.write) refl;
          undeposited = λ r h n. subst IsSome (sym C.append)
              (N.undeposited r (sym C.claim ∙ h) (sym C.note ∙ n));
          deposited = λ t h. let r = N.deposited t (sym C.note ∙ h) in
              (C.append ∙ r.0, subst IsSome (sym C.claim) r.1);
        }) (λ w _. O.orders_nest w);
      }
  registers by Append g a = let e = Register by Append g in
      let C = columns_of x sized O e a.is_there in
      let s = seat_of x by in
      let N = O.orders_nest by in
      let row = a.row in
      record {
        issue = i;
        counts_stand_for_seats = both (λ o. CountsOf i o (groups_of (next_of x e) o)
            (next_of x e).seats)
            (counts_other x sized O e a.seat Write i i refl
            (record { moved = λ e. e; moved_before = λ e. e; opened_before = λ e. e }) C.write)
            (counts_enter i Append x.append x.seats by (own_after x e) a.seat
            (O.counts_stand_for_seats Append) g a.is_there ((O.made_groups Append).found by g row.2)
            row.3 row.1.1 C.append);
        made_groups = both (λ o. MadeOf i o (groups_of (next_of x e) o) (next_of x e).seats)
            (made_other x sized O e a.seat Write i i refl refl)
            (made_stay x sized O e a.seat Append i _ refl
            (length-set x.append.tallies g _ ∙ (O.made_groups Append).made)
            (O.made_groups Append).oldest);
        one_holder_a_turn = turns_left x e a.seat C i T (λ b. b) refl
            (λ turn h. absurd (no_holder by row.0 turn h));
        orders_nest = each_seat x e a.seat (λ _ s. OrdersNest s) (record {
          append = λ h q. subst IsSome (sym C.write) row.1.0;
          claim = λ r h. subst IsSome (sym C.write) row.1.0;
          undeposited = λ r h n. subst IsSome (sym C.append) refl;
          deposited = λ t h. absurd (none_is_not_some row.1.2 (N.deposited t (sym C.note ∙ h)).1);
        }) (λ w _. O.orders_nest w);
      }
