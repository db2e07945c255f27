-- Counts stand for the seats in their groups, and each turn has one holder: what a step leaves of
-- it that acts on no group.
use Rattle.std.proofs.Common.{
  ◌≡◌,
  ℕ,
  suc,
  ◌<◌,
  ◌≤◌,
  length,
  Some,
  None,
  IsSome,
  refl,
  sym,
  ap,
  ◌∙◌,
  subst,
  arith,
}
use mathlib.Core.Logic.{inl, inr}
use Rattle.op_core.specs.declared.count.Order.{Order}
use Rattle.op_core.specs.declared.count.Order.TheVariants.{Write, Append}
use Rattle.path_core.specs.declared.event.Event.{Event}
use Rattle.path_core.specs.declared.event.Event.TheVariants.{Look, TakeTurn, GiveTurn}
use Rattle.path_core.specs.declared.event.Reading.TheVariants.{Number}
use Rattle.path_core.specs.declared.event.Turn.{Turn}
use Rattle.path_core.specs.declared.event.Turn.TheVariants.{Sync, Flush}
use Rattle.path_core.specs.declared.seat.Issue.{Issue}
use Rattle.path_core.specs.declared.seat.Issue.TheVariants.{Rest, Opened, Moved}
use Rattle.path_core.specs.declared.seat.Seat.{Seat}
use Rattle.path_core.specs.declared.state.OrderGroups.{OrderGroups}
use Rattle.path_core.specs.declared.state.PathState.{PathState}
use Rattle.path_core.specs.Parts.{groups_of, seat_of, group_in, found_of, HoldsTurn}
use Rattle.path_core.specs.Words.{reading, by_of, place_of}
use Rattle.path_core.specs.Allowed.{IsStep, IsThere}
use Rattle.path_core.specs.Next.{next_of, told_of}
use Rattle.path_core.specs.Lawful.{IsSized}
use Rattle.path_core.specs.LawfulOrders.{
  CountsOf,
  MadeOf,
  TurnsHeld,
  OrdersNest,
  IsOrderly,
  made_at,
}
use Rattle.path_core.proofs.seats.Columns.{
  Columns,
  each_seat,
  own_after,
  issue_held,
  issue_after,
  write_after,
  append_after,
  claim_after,
  note_after,
}
use Rattle.path_core.proofs.seats.StepColumns.{FitsSeat, columns}
use Rattle.path_core.proofs.orders.OneGroup.{IsOther}
use Rattle.path_core.proofs.orders.Groups.{counts_stay}
use Rattle.path_core.proofs.orders.HeldTurns.{TakesTurn, turns_left}
use Rattle.path_core.proofs.orders.FoundCurrent.{FindsSame, looks_find, finds_same, current_read}

pub both : (P : Order → Type 0) → P Write → P Append → (o : Order) → P o
both P w a Write = w
both P w a Append = a

-- An allowed step of a state whose groups and turns are in order.
module _ (x : PathState) (sized : IsSized x) (O : IsOrderly x) where
  abbrev i : Issue
  i = O.issue

  abbrev T : TurnsHeld i x.seats
  T = O.one_holder_a_turn

  -- what a seat found as current after a step is at most what was current before it
  pub found_below : (e : Event) → by_of e < length x.seats → (o : Order) (w g : ℕ)
      → (found_of o (seat_of (next_of x e) w)).current ≡ Some g → g ≤ (groups_of x o).current
  found_below e inside o w = each_seat x e inside
      (λ w s. (g : ℕ) → (found_of o s).current ≡ Some g → g ≤ (groups_of x o).current)
      (λ g h. own e g h) (λ w _ g h. (O.made_groups o).found w g h) w
    where
      by_order : (e : Event) (order : Order) (g : ℕ)
          → FindsSame (seat_of x (by_of e)) (own_after x e)
          → (found_of order (own_after x e)).current ≡ Some g → g ≤ (groups_of x order).current
      by_order e Write g S h = (O.made_groups Write).found (by_of e) g (sym S.write ∙ h)
      by_order e Append g S h = (O.made_groups Append).found (by_of e) g (sym S.append ∙ h)

      own : (e : Event) (g : ℕ) → (found_of o (own_after x e)).current ≡ Some g
          → g ≤ (groups_of x o).current
      own (Look by at) g h = elim (looks_find (seat_of x by) at (reading x at) o g h) [
        | inl f ↦ (O.made_groups o).found by g f
        | inr r ↦ let e = current_read x o g (subst (λ p. reading x p ≡ Number g) r.0 r.1) in
            omega arith
      ]
      own e g h = by_order e o g (finds_same e (seat_of x (by_of e))
          (reading x (place_of e)) (told_of x e) (λ by at is. absurd
          (let q : e ≡ Look by at = is in
          cc))) h

  -- The groups that were made, where what is current stays.
  pub made_stay : (e : Event) → by_of e < length x.seats → (o : Order) (j : Issue)
      (groups : OrderGroups) → groups.current ≡ (groups_of x o).current
      → length groups.tallies ≡ made_at j o (groups_of x o).current
      → groups.oldest ≤ (groups_of x o).current → MadeOf j o groups (next_of x e).seats
  made_stay e inside o j groups current long oldest = record {
    made = long ∙ ap (made_at j o) (sym current);
    oldest = omega arith;
    found = λ w g h. let l = found_below e inside o w g h in omega arith;
  }

  pub made_at_rest : (o : Order) → i ≡ Rest
      → length (groups_of x o).tallies ≡ suc (groups_of x o).current
  made_at_rest Write rest = (O.made_groups Write).made
      ∙ ap (λ j. made_at j Write x.write.current) rest
  made_at_rest Append rest =
      (O.made_groups Append).made ∙ ap (λ j. made_at j Append x.append.current) rest

  pub made_at_moved : (o : Order) → i ≡ Moved o
      → length (groups_of x o).tallies ≡ suc (groups_of x o).current
  made_at_moved Write is = (O.made_groups Write).made ∙ ap (λ j. made_at j Write x.write.current) is
  made_at_moved Append is =
      (O.made_groups Append).made ∙ ap (λ j. made_at j Append x.append.current) is

  pub made_at_opened : (o : Order) → i ≡ Opened o
      → length (groups_of x o).tallies ≡ suc (suc (groups_of x o).current)
  made_at_opened Write is = (O.made_groups Write).made
      ∙ ap (λ j. made_at j Write x.write.current) is
  made_at_opened Append is =
      (O.made_groups Append).made ∙ ap (λ j. made_at j Append x.append.current) is

  -- an order that a step does not act on, while the issue goes from `k` to `j`
  module _ (e : Event) (inside : by_of e < length x.seats) where
    abbrev own : Seat
    own = seat_of x (by_of e)

    pub counts_other : (o : Order) (k j : Issue) → i ≡ k → IsOther k j o
        → group_in o (own_after x e) ≡ group_in o own
        → CountsOf j o (groups_of x o) (next_of x e).seats
    counts_other o k j is other same = counts_stay k o (groups_of x o) x.seats (by_of e)
        (own_after x e)
        inside (subst (λ h. CountsOf h o (groups_of x o) x.seats) is (O.counts_stand_for_seats o))
        j other same

    pub made_other : (o : Order) (k j : Issue) → i ≡ k
        → made_at j o (groups_of x o).current ≡ made_at k o (groups_of x o).current
        → MadeOf j o (groups_of x o) (next_of x e).seats
    made_other o k j is same = made_stay e inside o j (groups_of x o) refl
        ((O.made_groups o).made ∙ ap (λ h. made_at h o (groups_of x o).current) is ∙ sym same)
        (O.made_groups o).oldest

    group_same : (o : Order) → Columns e own (own_after x e) → write_after own.write e ≡ own.write
        → append_after own.append e ≡ own.append → group_in o (own_after x e) ≡ group_in o own
    group_same Write C w a = C.write ∙ w
    group_same Append C w a = C.append ∙ a

    pub idle_where_same : write_after own.write e ≡ own.write
        → append_after own.append e ≡ own.append
        → (turn : Turn) → HoldsTurn own turn
        → (write_after own.write e ≡ None) × (append_after own.append e ≡ None)
    idle_where_same w a turn h = let r = T.holder_is_idle turn (by_of e) h in (w ∙ r.0, a ∙ r.1)

    -- A step of which groups see nothing.
    pub orders_stay : Columns e own (own_after x e) → (next_of x e).write ≡ x.write
        → (next_of x e).append ≡ x.append → write_after own.write e ≡ own.write
        → append_after own.append e ≡ own.append → TurnsHeld i (next_of x e).seats
        → OrdersNest (own_after x e) → IsOrderly (next_of x e)
    orders_stay C same_write same_append w a turns nest = record {
      issue = i;
      counts_stand_for_seats = both (λ o. CountsOf i o (groups_of (next_of x e) o)
          (next_of x e).seats)
          (subst (λ g. CountsOf i Write g (next_of x e).seats) (sym same_write)
          (counts_other Write i i refl unchanged (group_same Write C w a)))
          (subst (λ g. CountsOf i Append g (next_of x e).seats) (sym same_append)
          (counts_other Append i i refl unchanged (group_same Append C w a)));
      made_groups = both (λ o. MadeOf i o (groups_of (next_of x e) o) (next_of x e).seats)
          (subst (λ g. MadeOf i Write g (next_of x e).seats) (sym same_write)
          (made_other Write i i refl refl))
          (subst (λ g. MadeOf i Append g (next_of x e).seats) (sym same_append)
          (made_other Append i i refl refl));
      one_holder_a_turn = turns;
      orders_nest = each_seat x e inside (λ _ s. OrdersNest s) nest (λ w _. O.orders_nest w);
    }
      where
        unchanged : {o : Order} → IsOther i i o
        unchanged = record { moved = λ e. e; moved_before = λ e. e; opened_before = λ e. e }

  -- a seat of which the orders see nothing
  pub nest_stays : (e : Event) (s after : Seat) → Columns e s after → OrdersNest s
      → write_after s.write e ≡ s.write → append_after s.append e ≡ s.append
      → claim_after s.claim e ≡ s.claim → note_after s.note e ≡ s.note → OrdersNest after
  nest_stays e s after C N w a c n = record {
    append = λ g h. subst IsSome (sym (C.write ∙ w)) (N.append g (sym a ∙ sym C.append ∙ h));
    claim = λ r h. subst IsSome (sym (C.write ∙ w)) (N.claim r (sym c ∙ sym C.claim ∙ h));
    undeposited = λ r h k. subst IsSome (sym (C.append ∙ a))
        (N.undeposited r (sym c ∙ sym C.claim ∙ h) (sym n ∙ sym C.note ∙ k));
    deposited = λ t h. let r = N.deposited t (sym n ∙ sym C.note ∙ h) in
        (C.append ∙ a ∙ r.0, subst IsSome (sym (C.claim ∙ c)) r.1);
  }

  fits_seat : (e : Event) → IsThere x e → FitsSeat e (seat_of x (by_of e))
  fits_seat (TakeTurn by (Flush table)) there = let l = sized.seats by in
      let f = sized.limits.few_tables in
      omega arith
  fits_seat (GiveTurn by (Flush table)) there = let l = sized.seats by in
      let f = sized.limits.few_tables in
      omega arith
  fits_seat (TakeTurn by Sync) there = tt
  fits_seat (GiveTurn by Sync) there = tt
  fits_seat e there = tt

  pub columns_of : (e : Event) → IsThere x e → Columns e (seat_of x (by_of e)) (own_after x e)
  columns_of e there = columns e (seat_of x (by_of e)) (reading x (place_of e)) (told_of x e)
      (fits_seat e there)

  -- a step that takes and gives no turn and leaves the orders
  pub quiet : (e : Event) → IsStep x e → (TakesTurn e → ⊥)
      → (next_of x e).write ≡ x.write → (next_of x e).append ≡ x.append
      → write_after (seat_of x (by_of e)).write e ≡ (seat_of x (by_of e)).write
      → append_after (seat_of x (by_of e)).append e ≡ (seat_of x (by_of e)).append
      → claim_after (seat_of x (by_of e)).claim e ≡ (seat_of x (by_of e)).claim
      → note_after (seat_of x (by_of e)).note e ≡ (seat_of x (by_of e)).note
      → issue_after (issue_held (seat_of x (by_of e))) e ≡ issue_held (seat_of x (by_of e))
      → IsOrderly (next_of x e)
  quiet e a other sw sa w p c n is = let C = columns_of e a.is_there in
      orders_stay e a.seat C sw sa w p
      (turns_left x e a.seat C i T other is (idle_where_same e a.seat w p))
      (nest_stays e _ _ C (O.orders_nest (by_of e)) w p c n)
