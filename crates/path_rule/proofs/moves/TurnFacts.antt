-- A step of the holder of the Sync turn at which no box moves: what it found is exact, and the
-- boxes show what they showed.
use Rattle.std.proofs.Common.{
  ◌≡◌,
  ℕ,
  suc,
  ◌<◌,
  [],
  set,
  Some,
  None,
  is_some,
  IsTrue,
  sym,
  ap,
  ◌∙◌,
  subst,
  arith,
}
use mathlib.Core.Option.{some}
use lib.ListN.{get_elem?}
use Rattle.atomic_table.specs.Table.{State, Me}
use Rattle.op_core.specs.declared.count.Order.{Order}
use Rattle.op_core.specs.declared.count.Order.TheVariants.{Write, Append}
use Rattle.path_core.specs.declared.seat.Seat.{Seat}
use Rattle.path_core.specs.declared.seat.SyncTurn.{SyncTurn}
use Rattle.path_core.specs.declared.state.OrderGroups.{OrderGroups}
use Rattle.path_core.specs.LawfulSeats.{GroupsExact}
use Rattle.path_core.specs.Parts.{groups_of}
use Rattle.path_rule.specs.declared.lasting.Beside.{Beside}
use Rattle.path_rule.specs.declared.lasting.Lasting.{Lasting}
use Rattle.path_rule.specs.declared.slot.Slot.{Slot}
use Rattle.path_rule.specs.declared.view.Hands.{Hands}
use Rattle.path_rule.specs.declared.view.PathSize.{PathSize}
use Rattle.path_rule.specs.declared.view.Role.TheVariants.{Steps}
use Rattle.path_rule.specs.declared.view.View.{View}
use Rattle.path_rule.specs.Boxed.{Stamped, Boxed}
use Rattle.path_rule.specs.Boxes.{box_of}
use Rattle.path_rule.specs.Lasts.{shown}
use Rattle.path_rule.specs.Rule.{Ruled}
use Rattle.path_rule.specs.Turns.{TurnSaw, turn_groups}
use Rattle.path_rule.proofs.boxes.HolderBoxes.{boxed_goes}
use Rattle.path_rule.proofs.moves.HolderFacts.{outside, others_free, others_near, hands_now}
use Rattle.path_rule.proofs.moves.Looks.{own_part}
use Rattle.path_rule.proofs.moves.Moving.{core_lawful}

module _ {K : Type 0} (shows : K → Lasting) (o : Beside) (size : PathSize) (slots id : ℕ) (m : Me
    (Slot K) View)
    (w : ℕ) (mine : m.0.role ≡ Steps w) where
  module _ (s : State (Slot K) View) (r : Ruled shows o size s)
      (there : get_elem? s.views id ≡ some m.0) (held : IsTrue (is_some m.0.part.sync)) where
    pub exact_of : (o : Order) (t : SyncTurn) → m.0.part.sync ≡ Some t
        → GroupsExact r.core o (turn_groups o t)
    exact_of Write t e = (((core_lawful shows o size s r).seats_know w).sync t
        (own_part shows o size slots id m w mine s r there (λ (p : Seat). p.sync) (Some t) e)).write
    exact_of Append t e = (((core_lawful shows o size s r).seats_know w).sync t
        (own_part shows o size slots id m w mine s r there (λ (p : Seat). p.sync)
        (Some t) e)).append

    pub now_is : (o : Order) (c : ℕ) → TurnSaw o m.0.part c → c ≡ (groups_of r.core o).current
    now_is o c saw = (exact_of o saw.0 saw.1).current c saw.2

    -- A step of the holder that the boxes do not see.
    pub unseen : (groups : OrderGroups) (v' : View) → groups.current ≡ r.core.append.current
        → groups.oldest ≡ r.core.append.oldest → v'.role ≡ m.0.role → v'.part.append ≡ None
        → IsTrue (is_some v'.part.sync) → v'.hands ≡ m.0.hands → m.0.hands.box_taken ≡ None
        → Boxed shows size.seats r.core.notes (shown o size.at_open r.kept_to r.filed r.dropped
        r.core) r.core.claims groups s.homes
        (set s.views id v')
    unseen groups v' current oldest role out still same empty = let H =
        hands_now shows o size slots id m w mine s r there in
        boxed_goes shows size.seats r.core.notes
        (shown o size.at_open r.kept_to r.filed r.dropped r.core) r.core.claims r.core.claims
        r.core.append groups s.homes s.views
        r.boxed
        id w m.0 v' there mine role (outside shows o size slots id m w mine s r there held) out
        held still
        (others_free shows o size slots id m w mine s r there held)
        (others_near shows o size slots id m w mine s r there held) r.boxed.progress empty
        (ap (λ (h : Hands). h.box_taken) same ∙ empty)
        (subst (λ (h : Hands). (h.lasting ≡ shown o size.at_open r.kept_to r.filed r.dropped r.core)
        × (h.pending ≡ r.boxed.pending)
        × (h.progress ≡ r.boxed.progress)) (sym same) (H.desk held))
        (let n = r.boxed.near in omega arith)
        (λ t. oldest ∙ (r.boxed.all t ∙ sym current)) r.boxed.marked
        (λ b n q. subst (λ c. Stamped r.core.claims c r.boxed.progress.gathered b
        (r.boxed.stamp b) n) (sym current) (r.boxed.stamped b n q))
        (λ l. let S = H.swept (subst (λ (h : Hands). 0 < h.swept) same l) in record {
          holds = still;
          passed = oldest ∙ (S.passed ∙ sym current);
          empty = λ z q. subst (λ c. r.boxed.contents (box_of z (suc c)) ≡ []) (sym current)
              (S.empty z (subst (λ (h : Hands). z < h.swept) same q));
        })
