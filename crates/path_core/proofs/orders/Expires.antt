-- The holder of the Sync turn expires the group before a barrier, and advances the oldest one:
-- groups and turns stay in order.
use Rattle.std.proofs.Common.{◌≡◌, ℕ, refl, sym, ◌∙◌, subst, length-set}
use Rattle.op_core.specs.declared.count.Order.{Order}
use Rattle.op_core.specs.declared.count.Order.TheVariants.{Write, Append}
use Rattle.path_core.specs.declared.event.Event.TheVariants.{Expire, Advance}
use Rattle.path_core.specs.declared.seat.Issue.{Issue}
use Rattle.path_core.specs.declared.seat.Issue.TheVariants.{Rest, Opened, Moved}
use Rattle.path_core.specs.declared.state.PathState.{PathState}
use Rattle.path_core.specs.Parts.{groups_of, seat_of}
use Rattle.path_core.specs.Allowed.{IsStep}
use Rattle.path_core.specs.Next.{next_of}
use Rattle.path_core.specs.Lawful.{IsSized}
use Rattle.path_core.specs.LawfulOrders.{CountsOf, MadeOf, TurnsHeld, OrdersNest, IsOrderly}
use Rattle.path_core.proofs.seats.Columns.{each_seat, own_after}
use Rattle.path_core.proofs.orders.Groups.{counts_expire, counts_advance}
use Rattle.path_core.proofs.orders.HeldTurns.{turns_left, begun_is_held}
use Rattle.path_core.proofs.orders.OtherSteps.{
  made_stay,
  made_at_moved,
  nest_stays,
  columns_of,
  counts_other,
  made_other,
  idle_where_same,
  both,
}
use Rattle.path_core.proofs.orders.Issues.{goes_on, counts_at, issue_is}

module _ (x : PathState) (sized : IsSized x) (O : IsOrderly x) where
  abbrev i : Issue
  i = O.issue

  abbrev T : TurnsHeld i x.seats
  T = O.one_holder_a_turn

  pub expires : (by : ℕ) (o : Order) (g : ℕ) → IsStep x (Expire by o g)
      → IsOrderly (next_of x (Expire by o g))
  expires by Write g a = let e = Expire by Write g in let C = columns_of x sized O e a.is_there in
      let held = begun_is_held (seat_of x by) (Moved Write)
      (λ q. let r : Moved Write ≡ Rest = q in cc) a.row.0 in
      let is = issue_is x sized O by (Moved Write) held in
      goes_on x sized O e a (Moved Write) Rest held (λ b. b) refl refl refl refl refl
      (both (λ o. CountsOf Rest o (groups_of (next_of x e) o) (next_of x e).seats)
      (counts_expire (Moved Write) Write x.write x.seats by (own_after x e) a.seat
      (counts_at x sized O Write (Moved Write) is) g refl a.is_there a.row.1 a.row.2 C.write)
      (counts_other x sized O e a.seat Append (Moved Write) Rest is (record {
        moved = λ q. absurd (let r : Moved Write ≡ Moved Append = q in cc);
        moved_before = λ q. absurd (let r : Rest ≡ Moved Append = q in cc);
        opened_before = λ q. absurd (let r : Rest ≡ Opened Append = q in cc);
      }) C.append))
      (both (λ o. MadeOf Rest o (groups_of (next_of x e) o) (next_of x e).seats)
      (made_stay x sized O e a.seat Write Rest _ refl
      (length-set x.write.tallies g _ ∙ made_at_moved x sized O Write is)
      (O.made_groups Write).oldest)
      (made_other x sized O e a.seat Append (Moved Write) Rest is refl))
  expires by Append g a = let e = Expire by Append g in let C = columns_of x sized O e a.is_there in
      let held = begun_is_held (seat_of x by) (Moved Append)
      (λ q. let r : Moved Append ≡ Rest = q in cc) a.row.0 in
      let is = issue_is x sized O by (Moved Append) held in
      goes_on x sized O e a (Moved Append) Rest held (λ b. b) refl refl refl refl refl
      (both (λ o. CountsOf Rest o (groups_of (next_of x e) o) (next_of x e).seats)
      (counts_other x sized O e a.seat Write (Moved Append) Rest is (record {
        moved = λ q. absurd (let r : Moved Append ≡ Moved Write = q in cc);
        moved_before = λ q. absurd (let r : Rest ≡ Moved Write = q in cc);
        opened_before = λ q. absurd (let r : Rest ≡ Opened Write = q in cc);
      }) C.write)
      (counts_expire (Moved Append) Append x.append x.seats by (own_after x e) a.seat
      (counts_at x sized O Append (Moved Append) is) g refl a.is_there a.row.1 a.row.2 C.append))
      (both (λ o. MadeOf Rest o (groups_of (next_of x e) o) (next_of x e).seats)
      (made_other x sized O e a.seat Write (Moved Append) Rest is refl)
      (made_stay x sized O e a.seat Append Rest _ refl
      (length-set x.append.tallies g _ ∙ made_at_moved x sized O Append is)
      (O.made_groups Append).oldest))

  pub advances : (by : ℕ) (o : Order) (g : ℕ) → IsStep x (Advance by o g)
      → IsOrderly (next_of x (Advance by o g))
  advances by Write g a = let e = Advance by Write g in let C = columns_of x sized O e a.is_there in
      let row = a.row in record {
        issue = i;
        counts_stand_for_seats = both (λ o. CountsOf i o (groups_of (next_of x e) o)
            (next_of x e).seats)
            (subst (λ k. CountsOf i Write (record x.write { oldest = k }) (next_of x e).seats)
            (sym row.1) (counts_advance i Write x.write x.seats by (own_after x e) a.seat
            (O.counts_stand_for_seats Write) row.3 C.write))
            (counts_other x sized O e a.seat Append i i refl
            (record { moved = λ e. e; moved_before = λ e. e; opened_before = λ e. e }) C.append);
        made_groups = both (λ o. MadeOf i o (groups_of (next_of x e) o) (next_of x e).seats)
            (made_stay x sized O e a.seat Write i _ refl (O.made_groups Write).made row.2)
            (made_other x sized O e a.seat Append i i refl refl);
        one_holder_a_turn = turns_left x e a.seat C i T (λ b. b) refl
            (idle_where_same x sized O e a.seat refl refl);
        orders_nest = each_seat x e a.seat (λ _ s. OrdersNest s)
            (nest_stays x sized O e _ _ C (O.orders_nest by) refl refl refl refl)
            (λ v _. O.orders_nest v);
      }
  advances by Append g a = let e = Advance by Append g in
      let C = columns_of x sized O e a.is_there in
      let row = a.row in record {
        issue = i;
        counts_stand_for_seats = both (λ o. CountsOf i o (groups_of (next_of x e) o)
            (next_of x e).seats)
            (counts_other x sized O e a.seat Write i i refl
            (record { moved = λ e. e; moved_before = λ e. e; opened_before = λ e. e }) C.write)
            (subst (λ k. CountsOf i Append (record x.append { oldest = k }) (next_of x e).seats)
            (sym row.1) (counts_advance i Append x.append x.seats by (own_after x e) a.seat
            (O.counts_stand_for_seats Append) row.3 C.append));
        made_groups = both (λ o. MadeOf i o (groups_of (next_of x e) o) (next_of x e).seats)
            (made_other x sized O e a.seat Write i i refl refl)
            (made_stay x sized O e a.seat Append i _ refl (O.made_groups Append).made row.2);
        one_holder_a_turn = turns_left x e a.seat C i T (λ b. b) refl
            (idle_where_same x sized O e a.seat refl refl);
        orders_nest = each_seat x e a.seat (λ _ s. OrdersNest s)
            (nest_stays x sized O e _ _ C (O.orders_nest by) refl refl refl refl)
            (λ v _. O.orders_nest v);
      }
