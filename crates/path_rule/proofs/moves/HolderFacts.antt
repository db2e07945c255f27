-- What the holder of the Sync turn knows: it is outside the append order, others have boxes of
-- their own alone, and what it found of the order while it holds the turn is exact.
use Rattle.std.proofs.Common.{◌≡◌, ◌≢◌, ℕ, ◌≤◌, Bool, false, true, Option, Some, None, is_some}
use Rattle.std.proofs.Common.{IsTrue, refl, sym, ap, ◌∙◌, subst}
use Rattle.std.specs.Option.{option_map_or}
use mathlib.Core.Option.{some}
use lib.ListN.{get_elem?}
use Rattle.atomic_table.specs.Table.{State, Me}
use Rattle.op_core.specs.declared.count.Order.TheVariants.{Append}
use Rattle.path_core.specs.declared.event.Turn.TheVariants.{Sync}
use Rattle.path_core.specs.declared.seat.Issue.{Issue}
use Rattle.path_core.specs.declared.seat.Issue.TheVariants.{Rest}
use Rattle.path_core.specs.declared.seat.Seat.{Seat}
use Rattle.path_core.specs.declared.seat.SyncTurn.{SyncTurn}
use Rattle.path_core.specs.Lawful.{IsLawfulPath}
use Rattle.path_core.specs.LawfulSeats.{GroupsExact}
use Rattle.path_core.specs.Parts.{seat_of, issue_of}
use Rattle.path_rule.specs.declared.lasting.Beside.{Beside}
use Rattle.path_rule.specs.declared.lasting.Lasting.{Lasting}
use Rattle.path_rule.specs.declared.slot.Slot.{Slot}
use Rattle.path_rule.specs.declared.view.PathSize.{PathSize}
use Rattle.path_rule.specs.declared.view.Role.TheVariants.{Steps}
use Rattle.path_rule.specs.declared.view.View.{View}
use Rattle.path_rule.specs.Boxed.{HandsAs, HandsAre}
use Rattle.path_rule.specs.Lasts.{shown}
use Rattle.path_rule.specs.Rule.{Knows, Ruled}
use Rattle.path_rule.specs.Turns.{TurnSaw}
use Rattle.path_rule.proofs.moves.Looks.{as_part, own_part}
use Rattle.path_rule.proofs.moves.Moving.{core_lawful, known}
use Rattle.path_rule.proofs.moves.StepFacts.{group_low}

-- the turn of a holder that is at an issue
pub at_issue : (p : Seat) (i : Issue) → i ≢ Rest → issue_of p ≡ i
    → (t : SyncTurn) × (p.sync ≡ Some t) × (t.issue ≡ i)
at_issue p i begun = by p.sync
  where
    by : (o : Option SyncTurn) → option_map_or (λ (t : SyncTurn). t.issue) o Rest ≡ i
        → (t : SyncTurn) × (o ≡ Some t) × (t.issue ≡ i)
    by None e = absurd (begun (sym e))
    by (Some t) e = (t, refl, e)

pub is_held : (o : Option SyncTurn) (t : SyncTurn) → o ≡ Some t → IsTrue (is_some o)
is_held o t e = ap (λ q. is_some q) e

module _ {K : Type 0} (shows : K → Lasting) (o : Beside) (size : PathSize) (slots id : ℕ) (m : Me
    (Slot K) View)
    (w : ℕ) (mine : m.0.role ≡ Steps w) where
  module _ (s : State (Slot K) View) (r : Ruled shows o size s)
      (there : get_elem? s.views id ≡ some m.0) (held : IsTrue (is_some m.0.part.sync)) where
    abbrev law : IsLawfulPath r.core
    law = core_lawful shows o size s r

    pub has : IsTrue (is_some (seat_of r.core w).sync)
    has = own_part shows o size slots id m w mine s r there (λ (p : Seat). is_some p.sync) true held

    pub outside : m.0.part.append ≡ None
    outside = ap (λ (p : Seat). p.append) (as_part shows o size slots id m w mine s r there)
        ∙ (law.orders.one_holder_a_turn.holder_is_idle Sync w has).1

    pub known_seat : (j z : ℕ) (u : View) → get_elem? s.views j ≡ some u → u.role ≡ Steps z
        → (r.owner z ≡ j) × (u.part ≡ seat_of r.core z)
    known_seat j z u at is = let k = (subst
        (λ ρ. Knows r.core r.events r.owner r.made r.boss j ρ u.part u.trail u.returned) is
        (r.each_seat j u at).1).0 in (k.1, k.2)

    pub others_free : (j z : ℕ) (u : View) → j ≢ id → get_elem? s.views j ≡ some u
        → u.role ≡ Steps z → is_some u.part.sync ≡ false
    others_free j z u apart at is = by (is_some u.part.sync) refl
      where
        by : (b : Bool) → is_some u.part.sync ≡ b → b ≡ false
        by false e = refl
        by true e = let k = known_seat j z u at is in
            absurd (apart (sym k.0 ∙ (ap r.owner
            (law.orders.one_holder_a_turn.one Sync z w
            (ap (λ (p : Seat). is_some p.sync) (sym k.1) ∙ e) has)
            ∙ (known shows o size s r id w m.0 there mine).1.1)))

    pub others_near : (j z g : ℕ) (u : View) → j ≢ id → get_elem? s.views j ≡ some u
        → u.role ≡ Steps z → u.part.append ≡ Some g
        → (g ≤ r.core.append.current) × (r.core.append.oldest ≤ g)
    others_near j z g u apart at is e = let k = known_seat j z u at is in
        let in_it = ap (λ (p : Seat). p.append) (sym k.1) ∙ e in (
          group_low r.core law Append z g in_it,
          (law.orders.counts_stand_for_seats Append).nobody_below z g in_it,
        )

    -- what the holder found of the append order while it holds the turn is exact
    pub exact : (t : SyncTurn) → m.0.part.sync ≡ Some t → GroupsExact r.core Append t.append
    exact t e = ((law.seats_know w).sync t
        (own_part shows o size slots id m w mine s r there (λ (p : Seat). p.sync)
        (Some t) e)).append

    pub current_is : (c : ℕ) → TurnSaw Append m.0.part c → c ≡ r.core.append.current
    current_is c saw = (exact saw.0 saw.1).current c saw.2

    pub issue_at : (i : Issue) (t : SyncTurn) → m.0.part.sync ≡ Some t → t.issue ≡ i
        → law.orders.issue ≡ i
    issue_at i t e is = sym (law.orders.one_holder_a_turn.issue_is w t
        (own_part shows o size slots id m w mine s r there (λ (p : Seat). p.sync) (Some t) e)) ∙ is

  pub hands_now : (s : State (Slot K) View) (r : Ruled shows o size s)
      → get_elem? s.views id ≡ some m.0
      → HandsAre r.boxed.contents (shown o size.at_open r.kept_to r.filed r.dropped r.core)
      r.boxed.pending r.boxed.progress
      r.core.append
      size.seats w m.0.part m.0.hands
  hands_now s r there = subst (HandsAs r.boxed.contents
      (shown o size.at_open r.kept_to r.filed r.dropped r.core) r.boxed.pending r.boxed.progress
      r.core.append size.seats m.0.part
      m.0.hands)
      mine (r.boxed.in_hands id m.0 there)
