-- Nobody is in a group above the current one.
use Rattle.std.proofs.Common.{◌≡◌, ℕ, ◌<◌, ◌≤◌, length, Option, Some, refl, sym, ap, ◌∙◌, arith}
use Rattle.std.proofs.lemmas.Option.{none-some, same_Some}
use Rattle.std.proofs.lemmas.List.{get_or_past}
use mathlib.Core.Logic.{dite}
use native.Mathlib.Decide.{dec_lt, dec_le}
use Rattle.op_core.specs.declared.count.Order.{Order}
use Rattle.op_core.specs.declared.count.Order.TheVariants.{Write, Append}
use Rattle.op_core.specs.declared.count.Tally.TheVariants.{Open as OpenTally, Expired}
use Rattle.op_core.specs.Tallies.{running_of}
use Rattle.path_core.specs.declared.event.Event.{Event}
use Rattle.path_core.specs.declared.event.Event.TheVariants.{Register, Close}
use Rattle.path_core.specs.declared.seat.Issue.{Issue}
use Rattle.path_core.specs.declared.seat.Issue.TheVariants.{Rest, Opened, Moved}
use Rattle.path_core.specs.declared.seat.Seat.{Seat}
use Rattle.path_core.specs.declared.state.PathState.{PathState}
use Rattle.path_core.specs.Parts.{fresh_seat, groups_of, tally_of, seat_of, group_in}
use Rattle.path_core.specs.Words.{by_of}
use Rattle.path_core.specs.Allowed.{IsStep}
use Rattle.path_core.specs.Next.{next_of}
use Rattle.path_core.specs.Lawful.{IsSized}
use Rattle.path_core.specs.LawfulOrders.{IsOrderly, is_in, made_at}
use Rattle.path_core.proofs.lists.Replaced.{counted_some}
use Rattle.path_core.proofs.seats.Columns.{each_seat, own_after, write_after, append_after}
use Rattle.path_core.proofs.orders.OneGroup.{fresh_out, in_it}
use Rattle.path_core.proofs.orders.OtherSteps.{columns_of}

-- the group of an order that a seat is in after its step
abbrev group_after : Order → Seat → Event → Option ℕ
group_after Write s e = write_after s.write e
group_after Append s e = append_after s.append e

module _ (x : PathState) (O : IsOrderly x) where
  -- a group that a seat is in has a running operation
  pub in_group : (o : Order) (w g : ℕ) → group_in o (seat_of x w) ≡ Some g
      → 0 < running_of (tally_of x o g)
  in_group o w g is =
      let c = (O.counts_stand_for_seats o).counted g in
      let s = counted_some (is_in o g) x.seats fresh_seat (fresh_out o g) w
      (in_it o (seat_of x w) g is) in
      omega arith

  -- so it is not finished
  pub inhabited : (o : Order) (w g : ℕ) → group_in o (seat_of x w) ≡ Some g
      → tally_of x o g ≡ Expired 0 → ⊥
  inhabited o w g is finished =
      let s = in_group o w g is in let z = ap running_of finished in omega arith

  -- a group above the current one is open and empty
  empty_above : (o : Order) (h : ℕ) → (groups_of x o).current < h → tally_of x o h ≡ OpenTally 0
  empty_above o h above = dite (dec_lt h (length (groups_of x o).tallies))
      (λ made. by o O.issue refl above made (O.made_groups o).made)
      (λ past. get_or_past (groups_of x o).tallies h (OpenTally 0) (omega arith))
    where
      by : (o : Order) (i : Issue) → O.issue ≡ i → (groups_of x o).current < h
          → h < length (groups_of x o).tallies
          → length (groups_of x o).tallies ≡ made_at i o (groups_of x o).current
          → tally_of x o h ≡ OpenTally 0
      by o Rest e above made long = absurd (omega arith)
      by o (Moved p) e above made long = absurd (omega arith)
      by Write (Opened Write) e above made long =
          ((O.counts_stand_for_seats Write).each h).opened e (omega arith)
      by Write (Opened Append) e above made long = absurd (omega arith)
      by Append (Opened Write) e above made long = absurd (omega arith)
      by Append (Opened Append) e above made long =
          ((O.counts_stand_for_seats Append).each h).opened e (omega arith)

  -- a seat in an order is in the current group or an earlier one
  pub nobody_above : (o : Order) (w h : ℕ) → group_in o (seat_of x w) ≡ Some h
      → h ≤ (groups_of x o).current
  nobody_above o w h is = dite (dec_le h (groups_of x o).current) (λ l. l)
      (λ n. absurd (let s = in_group o w h is in
      let z = ap running_of (empty_above o h (omega arith)) in
      omega arith))

  -- and after a step it is in the group that was current or an earlier one
  pub nobody_above_now : IsSized x → (o : Order) (e : Event) → IsStep x e → (w h : ℕ)
      → group_in o (seat_of (next_of x e) w) ≡ Some h → h ≤ (groups_of x o).current
  nobody_above_now sized o e a w h = each_seat x e a.seat
      (λ _ s. group_in o s ≡ Some h → h ≤ (groups_of x o).current)
      (λ is. own o e a (sym (column o) ∙ is)) (λ v _ is. nobody_above o v h is) w
    where
      column : (o : Order) → group_in o (own_after x e) ≡ group_after o (seat_of x (by_of e)) e
      column Write = (columns_of x sized O e a.is_there).write
      column Append = (columns_of x sized O e a.is_there).append

      own : (o : Order) (e : Event) → IsStep x e
          → group_after o (seat_of x (by_of e)) e ≡ Some h → h ≤ (groups_of x o).current
      own Write (Register by Write g) a is = let same = same_Some g h is in
          let f = (O.made_groups Write).found by g a.row.2 in omega arith
      own Append (Register by Append g) a is = let same = same_Some g h is in
          let f = (O.made_groups Append).found by g a.row.2 in omega arith
      own Write (Register by Append g) a is = nobody_above Write by h is
      own Append (Register by Write g) a is = nobody_above Append by h is
      own Write (Close by Write g carried) a is = absurd (none-some h is)
      own Append (Close by Append g carried) a is = absurd (none-some h is)
      own Write (Close by Append g carried) a is = nobody_above Write by h is
      own Append (Close by Write g carried) a is = nobody_above Append by h is
      own Write e a is = nobody_above Write (by_of e) h is
      own Append e a is = nobody_above Append (by_of e) h is
