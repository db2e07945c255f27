-- The holder of the Sync turn goes on with a barrier: groups and turns are in order after each such
-- step.
use Rattle.std.proofs.Common.{
  ◌≡◌,
  ℕ,
  suc,
  ◌<◌,
  List,
  [],
  ◌∷◌,
  length,
  Some,
  refl,
  sym,
  ap,
  ◌∙◌,
  subst,
  arith,
  length-append,
}
use Rattle.op_core.specs.declared.count.Order.{Order}
use Rattle.op_core.specs.declared.count.Order.TheVariants.{Write, Append}
use Rattle.op_core.specs.declared.count.Tally.{Tally}
use Rattle.op_core.specs.declared.count.Tally.TheVariants.{Open as OpenTally}
use Rattle.path_core.specs.declared.event.Event.{Event}
use Rattle.path_core.specs.declared.event.Event.TheVariants.{OpenGroup, MoveCurrent}
use Rattle.path_core.specs.declared.seat.Issue.{Issue}
use Rattle.path_core.specs.declared.seat.Issue.TheVariants.{Rest, Opened, Moved}
use Rattle.path_core.specs.declared.state.OrderGroups.{OrderGroups}
use Rattle.path_core.specs.declared.state.PathState.{PathState}
use Rattle.path_core.specs.Parts.{groups_of, seat_of}
use Rattle.path_core.specs.Words.{by_of}
use Rattle.path_core.specs.Allowed.{IsStep}
use Rattle.path_core.specs.Next.{next_of}
use Rattle.path_core.specs.Lawful.{IsSized}
use Rattle.path_core.specs.LawfulOrders.{CountsOf, MadeOf, TurnsHeld, OrdersNest, IsOrderly}
use Rattle.path_core.proofs.seats.Columns.{
  each_seat,
  own_after,
  issue_held,
  issue_after,
  write_after,
  append_after,
  claim_after,
  note_after,
}
use Rattle.path_core.proofs.orders.Groups.{counts_open, counts_move}
use Rattle.path_core.proofs.orders.HeldTurns.{
  TakesTurn,
  turns_go_on,
  issue_known,
  issue_is_held,
  begun_is_held,
}
use Rattle.path_core.proofs.orders.OtherSteps.{
  found_below,
  made_stay,
  made_at_rest,
  made_at_opened,
  nest_stays,
  columns_of,
  counts_other,
  made_other,
  idle_where_same,
  both,
}

module _ (x : PathState) (sized : IsSized x) (O : IsOrderly x) where
  abbrev i : Issue
  i = O.issue

  abbrev T : TurnsHeld i x.seats
  T = O.one_holder_a_turn

  -- from the issue `k` to the issue `j`, at the groups of one order
  pub goes_on : (e : Event) → IsStep x e → (k j : Issue) → issue_held (seat_of x (by_of e)) ≡ Some k
      → (TakesTurn e → ⊥)
      → issue_after (Some k) e ≡ Some j
      → write_after (seat_of x (by_of e)).write e ≡ (seat_of x (by_of e)).write
      → append_after (seat_of x (by_of e)).append e ≡ (seat_of x (by_of e)).append
      → claim_after (seat_of x (by_of e)).claim e ≡ (seat_of x (by_of e)).claim
      → note_after (seat_of x (by_of e)).note e ≡ (seat_of x (by_of e)).note
      → ((o : Order) → CountsOf j o (groups_of (next_of x e) o) (next_of x e).seats)
      → ((o : Order) → MadeOf j o (groups_of (next_of x e) o) (next_of x e).seats)
      → IsOrderly (next_of x e)
  goes_on e a k j held other goes w p c n counts made = let C = columns_of x sized O e a.is_there in
      let is = issue_known i x.seats T (by_of e) k held in
      record {
        issue = j;
        counts_stand_for_seats = counts;
        made_groups = made;
        one_holder_a_turn = turns_go_on x e a.seat C k j
            (subst (λ h. TurnsHeld h x.seats) (sym is) T) other held (λ _. goes)
            (idle_where_same x sized O e a.seat w p);
        orders_nest = each_seat x e a.seat (λ _ s. OrdersNest s)
            (nest_stays x sized O e _ _ C (O.orders_nest (by_of e)) w p c n)
            (λ v _. O.orders_nest v);
      }

  -- its own order's counts, told of the issue that stands
  pub counts_at : (o : Order) (k : Issue) → i ≡ k → CountsOf k o (groups_of x o) x.seats
  counts_at o k is = subst (λ h. CountsOf h o (groups_of x o) x.seats) is
      (O.counts_stand_for_seats o)

  pub issue_is : (w : ℕ) (k : Issue) → issue_held (seat_of x w) ≡ Some k → i ≡ k
  issue_is w k held = sym (issue_known i x.seats T w k held)

  pub opens : (by : ℕ) (o : Order) (g : ℕ) → IsStep x (OpenGroup by o g)
      → IsOrderly (next_of x (OpenGroup by o g))
  opens by Write g a = let e = OpenGroup by Write g in let C = columns_of x sized O e a.is_there in
      let held = issue_is_held (seat_of x by) Rest a.row.1 a.row.0 in
      let rest = issue_is by Rest held in
      let long = made_at_rest x sized O Write rest in
      goes_on e a Rest (Opened Write) held (λ b. b) refl refl refl refl refl
      (both (λ o. CountsOf (Opened Write) o (groups_of (next_of x e) o) (next_of x e).seats)
      (counts_open Rest Write x.write x.seats by (own_after x e) a.seat (counts_at Write Rest rest)
      refl long C.write)
      (counts_other x sized O e a.seat Append Rest (Opened Write) rest (record {
        moved = λ q. absurd (let r : Rest ≡ Moved Append = q in cc);
        moved_before = λ q. absurd (let r : Opened Write ≡ Moved Append = q in cc);
        opened_before = λ q. absurd (let r : Opened Write ≡ Opened Append = q in cc);
      }) C.append))
      (both (λ o. MadeOf (Opened Write) o (groups_of (next_of x e) o) (next_of x e).seats)
      (made_stay x sized O e a.seat Write (Opened Write) _ refl
      (length-append x.write.tallies (OpenTally 0 ∷ []) ∙ omega arith) (O.made_groups Write).oldest)
      (made_other x sized O e a.seat Append Rest (Opened Write) rest refl))
  opens by Append g a = let e = OpenGroup by Append g in
      let C = columns_of x sized O e a.is_there in
      let held = issue_is_held (seat_of x by) Rest a.row.1 a.row.0 in
      let rest = issue_is by Rest held in
      let long = made_at_rest x sized O Append rest in
      goes_on e a Rest (Opened Append) held (λ b. b) refl refl refl refl refl
      (both (λ o. CountsOf (Opened Append) o (groups_of (next_of x e) o) (next_of x e).seats)
      (counts_other x sized O e a.seat Write Rest (Opened Append) rest (record {
        moved = λ q. absurd (let r : Rest ≡ Moved Write = q in cc);
        moved_before = λ q. absurd (let r : Opened Append ≡ Moved Write = q in cc);
        opened_before = λ q. absurd (let r : Opened Append ≡ Opened Write = q in cc);
      }) C.write)
      (counts_open Rest Append x.append x.seats by (own_after x e) a.seat
      (counts_at Append Rest rest)
      refl long C.append))
      (both (λ o. MadeOf (Opened Append) o (groups_of (next_of x e) o) (next_of x e).seats)
      (made_other x sized O e a.seat Write Rest (Opened Append) rest refl)
      (made_stay x sized O e a.seat Append (Opened Append) _ refl
      (length-append x.append.tallies (OpenTally 0 ∷ []) ∙ omega arith)
      (O.made_groups Append).oldest))

  -- the group that is made current is made; nobody found it yet
  made_moved : (e : Event) → by_of e < length x.seats → (o : Order) (groups : OrderGroups)
      → groups.tallies ≡ (groups_of x o).tallies → groups.oldest ≡ (groups_of x o).oldest
      → groups.current ≡ suc (groups_of x o).current → i ≡ Opened o
      → MadeOf (Moved o) o groups (next_of x e).seats
  made_moved e inside o groups tallies oldest current is = record {
    made = ap (λ (l : List Tally). length l) tallies ∙ made_at_opened x sized O o is
        ∙ sym (ap suc current);
    oldest = let b = (O.made_groups o).oldest in omega arith;
    found = λ w g h. let l = found_below x sized O e inside o w g h in omega arith;
  }

  pub moves : (by : ℕ) (o : Order) (g : ℕ) → IsStep x (MoveCurrent by o g)
      → IsOrderly (next_of x (MoveCurrent by o g))
  moves by Write g a = let e = MoveCurrent by Write g in
      let C = columns_of x sized O e a.is_there in
      let held = begun_is_held (seat_of x by) (Opened Write)
      (λ q. let r : Opened Write ≡ Rest = q in cc) a.row.0 in
      let is = issue_is by (Opened Write) held in
      goes_on e a (Opened Write) (Moved Write) held (λ b. b) refl refl refl refl refl
      (both (λ o. CountsOf (Moved Write) o (groups_of (next_of x e) o) (next_of x e).seats)
      (subst (λ c. CountsOf (Moved Write) Write (record x.write { current = c })
      (next_of x e).seats)
      (sym a.row.1) (counts_move (Opened Write) Write x.write x.seats by (own_after x e) a.seat
      (counts_at Write (Opened Write) is) refl C.write))
      (counts_other x sized O e a.seat Append (Opened Write) (Moved Write) is (record {
        moved = λ q. absurd (let r : Opened Write ≡ Moved Append = q in cc);
        moved_before = λ q. absurd (let r : Moved Write ≡ Moved Append = q in cc);
        opened_before = λ q. absurd (let r : Moved Write ≡ Opened Append = q in cc);
      }) C.append))
      (both (λ o. MadeOf (Moved Write) o (groups_of (next_of x e) o) (next_of x e).seats)
      (made_moved e a.seat Write _ refl refl a.row.1 is)
      (made_other x sized O e a.seat Append (Opened Write) (Moved Write) is refl))
  moves by Append g a = let e = MoveCurrent by Append g in
      let C = columns_of x sized O e a.is_there in
      let held = begun_is_held (seat_of x by) (Opened Append)
      (λ q. let r : Opened Append ≡ Rest = q in cc) a.row.0 in
      let is = issue_is by (Opened Append) held in
      goes_on e a (Opened Append) (Moved Append) held (λ b. b) refl refl refl refl refl
      (both (λ o. CountsOf (Moved Append) o (groups_of (next_of x e) o) (next_of x e).seats)
      (counts_other x sized O e a.seat Write (Opened Append) (Moved Append) is (record {
        moved = λ q. absurd (let r : Opened Append ≡ Moved Write = q in cc);
        moved_before = λ q. absurd (let r : Moved Append ≡ Moved Write = q in cc);
        opened_before = λ q. absurd (let r : Moved Append ≡ Opened Write = q in cc);
      }) C.write)
      (subst (λ c. CountsOf (Moved Append) Append (record x.append { current = c })
      (next_of x e).seats) (sym a.row.1)
      (counts_move (Opened Append) Append x.append x.seats by (own_after x e) a.seat
      (counts_at Append (Opened Append) is) refl C.append)))
      (both (λ o. MadeOf (Moved Append) o (groups_of (next_of x e) o) (next_of x e).seats)
      (made_other x sized O e a.seat Write (Opened Append) (Moved Append) is refl)
      (made_moved e a.seat Append _ refl refl a.row.1 is))
