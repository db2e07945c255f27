-- A seat leaves its group: groups and turns stay in order.
use Rattle.std.proofs.Common.{◌≡◌, ℕ, None, IsSome, refl, sym, ◌∙◌, subst, length-set}
use Rattle.std.proofs.lemmas.Option.{none-some}
use Rattle.op_core.specs.declared.count.Order.{Order}
use Rattle.op_core.specs.declared.count.Order.TheVariants.{Write, Append}
use Rattle.path_core.specs.declared.event.Carried.{Carried}
use Rattle.path_core.specs.declared.event.Carried.TheVariants.{Nothing, Deposit, Applied}
use Rattle.path_core.specs.declared.event.Event.TheVariants.{Close}
use Rattle.path_core.specs.declared.seat.Issue.{Issue}
use Rattle.path_core.specs.declared.state.PathState.{PathState}
use Rattle.path_core.specs.Parts.{groups_of, seat_of}
use Rattle.path_core.specs.Allowed.{IsStep}
use Rattle.path_core.specs.Next.{next_of}
use Rattle.path_core.specs.Lawful.{IsSized}
use Rattle.path_core.specs.LawfulOrders.{CountsOf, MadeOf, TurnsHeld, OrdersNest, IsOrderly}
use Rattle.path_core.proofs.seats.Columns.{each_seat, own_after}
use Rattle.path_core.proofs.orders.Groups.{counts_leave}
use Rattle.path_core.proofs.orders.HeldTurns.{turns_left}
use Rattle.path_core.proofs.orders.OtherSteps.{
  made_stay,
  columns_of,
  counts_other,
  made_other,
  both,
}

module _ (x : PathState) (sized : IsSized x) (O : IsOrderly x) where
  abbrev i : Issue
  i = O.issue

  abbrev T : TurnsHeld i x.seats
  T = O.one_holder_a_turn

  -- Close: the seat leaves its group.

  closes_append : (by g : ℕ) (carried : Carried) → (a : IsStep x (Close by Append g carried))
      → OrdersNest (own_after x (Close by Append g carried))
      → IsOrderly (next_of x (Close by Append g carried))
  closes_append by g carried a nest = let e = Close by Append g carried in
      let C = columns_of x sized O e a.is_there in
      record {
        issue = i;
        counts_stand_for_seats = both (λ o. CountsOf i o (groups_of (next_of x e) o)
            (next_of x e).seats)
            (counts_other x sized O e a.seat Write i i refl
            (record { moved = λ e. e; moved_before = λ e. e; opened_before = λ e. e }) C.write)
            (counts_leave i Append x.append x.seats by (own_after x e) a.seat
            (O.counts_stand_for_seats Append) g a.is_there a.row.0 C.append);
        made_groups = both (λ o. MadeOf i o (groups_of (next_of x e) o) (next_of x e).seats)
            (made_other x sized O e a.seat Write i i refl refl)
            (made_stay x sized O e a.seat Append i _ refl
            (length-set x.append.tallies g _ ∙ (O.made_groups Append).made)
            (O.made_groups Append).oldest);
        one_holder_a_turn = turns_left x e a.seat C i T (λ b. b) refl
            (λ turn h. ((T.holder_is_idle turn by h).0, refl));
        orders_nest = each_seat x e a.seat (λ _ s. OrdersNest s) nest (λ w _. O.orders_nest w);
      }

  closes_write : (by g : ℕ) (carried : Carried) → (a : IsStep x (Close by Write g carried))
      → (seat_of x by).append ≡ None → IsOrderly (next_of x (Close by Write g carried))
  closes_write by g carried a out = let e = Close by Write g carried in
      let C = columns_of x sized O e a.is_there in
      record {
        issue = i;
        counts_stand_for_seats = both (λ o. CountsOf i o (groups_of (next_of x e) o)
            (next_of x e).seats)
            (counts_leave i Write x.write x.seats by (own_after x e) a.seat
            (O.counts_stand_for_seats Write) g a.is_there a.row.0 C.write)
            (counts_other x sized O e a.seat Append i i refl
            (record { moved = λ e. e; moved_before = λ e. e; opened_before = λ e. e }) C.append);
        made_groups = both (λ o. MadeOf i o (groups_of (next_of x e) o) (next_of x e).seats)
            (made_stay x sized O e a.seat Write i _ refl
            (length-set x.write.tallies g _ ∙ (O.made_groups Write).made)
            (O.made_groups Write).oldest)
            (made_other x sized O e a.seat Append i i refl refl);
        one_holder_a_turn = turns_left x e a.seat C i T (λ b. b) refl
            (λ turn h. (refl, (T.holder_is_idle turn by h).1));
        orders_nest = each_seat x e a.seat (λ _ s. OrdersNest s) (record {
          append = λ h q. absurd (none-some h (sym (C.append ∙ out) ∙ q));
          claim = λ r h. absurd (none-some r (sym C.claim ∙ h));
          undeposited = λ r h n. absurd (none-some r (sym C.claim ∙ h));
          deposited = λ t h. absurd (none-some t (sym C.note ∙ h));
        }) (λ w _. O.orders_nest w);
      }

  pub closes : (by g : ℕ) (o : Order) (carried : Carried) → IsStep x (Close by o g carried)
      → IsOrderly (next_of x (Close by o g carried))
  closes by g Write Nothing a = closes_write by g Nothing a a.row.1.0
  closes by g Write (Deposit note) a = absurd a.row.1
  closes by g Write (Applied places) a = closes_write by g (Applied places) a a.row.1.0
  closes by g Append (Applied places) a = absurd a.row.1
  closes by g Append Nothing a =
      let C = columns_of x sized O (Close by Append g Nothing) a.is_there in
      let N = O.orders_nest by in closes_append by g Nothing a (record {
        append = λ h q. absurd (none-some h (sym C.append ∙ q));
        claim = λ r h. absurd (none-some r (sym (C.claim ∙ a.row.1) ∙ h));
        undeposited = λ r h n. absurd (none-some r (sym (C.claim ∙ a.row.1) ∙ h));
        deposited = λ t h. let r = N.deposited t (sym C.note ∙ h) in
            (C.append, subst IsSome (sym C.claim) r.1);
      })
  closes by g Append (Deposit note) a = let C = columns_of x sized O (Close by Append g
      (Deposit note)) a.is_there in
      let N = O.orders_nest by in closes_append by g (Deposit note) a (record {
        append = λ h q. absurd (none-some h (sym C.append ∙ q));
        claim = λ r h. subst IsSome (sym C.write) (N.claim r (sym C.claim ∙ h));
        undeposited = λ r h n. absurd (none-some note.tables (sym (sym C.note ∙ n)));
        deposited = λ t h. (C.append, subst IsSome (sym (C.claim ∙ a.row.1.range)) refl);
      })
