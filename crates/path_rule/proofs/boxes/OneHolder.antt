-- Each box is at home or in one hand.
use Rattle.std.proofs.Common.{
  ◌≡◌,
  ℕ,
  ◌+◌,
  ◌*◌,
  ◌%◌,
  Option,
  Some,
  None,
  is_some,
  IsTrue,
  false,
  refl,
  sym,
  ap,
  ◌∙◌,
  arith,
}
use Rattle.std.proofs.lemmas.Bool.{false≢true}
use mathlib.Core.Logic.{inl, inr}
use mathlib.Core.Option.{some}
use lib.ListN.{get_elem?}
use Rattle.atomic_table.specs.Table.{State}
use Rattle.op_core.specs.declared.count.Order.TheVariants.{Append}
use Rattle.path_core.specs.declared.event.Turn.TheVariants.{Sync}
use Rattle.path_core.specs.declared.seat.Seat.{Seat}
use Rattle.path_core.specs.declared.state.PathState.{PathState}
use Rattle.path_core.specs.Lawful.{IsLawfulPath}
use Rattle.path_core.specs.Parts.{seat_of, holds_turn}
use Rattle.path_rule.specs.declared.lasting.Beside.{Beside}
use Rattle.path_rule.specs.declared.lasting.Lasting.{Lasting}
use Rattle.path_rule.specs.declared.slot.Slot.{Slot}
use Rattle.path_rule.specs.declared.view.Hands.{Hands}
use Rattle.path_rule.specs.declared.view.PathSize.{PathSize}
use Rattle.path_rule.specs.declared.view.Role.{Role}
use Rattle.path_rule.specs.declared.view.Role.TheVariants.{Opener, Steps, Spent}
use Rattle.path_rule.specs.declared.view.View.{View}
use Rattle.path_rule.specs.Boxed.{Gathers, HandsAre, HandsAs}
use Rattle.path_rule.specs.Boxes.{
  box_of,
  desk_box,
  HasOwn,
  HasDesk,
  HoldsIn,
  HoldsAs,
  HoldsBox,
  IsFree,
}
use Rattle.path_rule.specs.Lasts.{shown}
use Rattle.path_rule.specs.Rule.{Knows, Ruled}
use Rattle.path_rule.proofs.moves.Moving.{core_lawful}
use Rattle.path_rule.proofs.moves.StepFacts.{group_low}

-- the group of one that has its own box
own_group : (z b : ℕ) (o : Option ℕ) → HasOwn z o b
    → (g : ℕ) × (o ≡ Some g) × (b ≡ box_of z g)
own_group z b None h = absurd h
own_group z b (Some g) h = (g, refl, h)

module _ {K : Type 0} (shows : K → Lasting) (o : Beside) (size : PathSize) (s : State (Slot K) View)
    (r : Ruled shows o size s) where
  abbrev x : PathState
  x = r.core

  abbrev law : IsLawfulPath x
  law = core_lawful shows o size s r

  abbrev KnowsHands : ℕ → Seat → Hands → Type 0
  KnowsHands z p h = HandsAre r.boxed.contents (shown o size.at_open r.kept_to r.filed r.dropped x)
      r.boxed.pending
      r.boxed.progress
      x.append
      size.seats z p h

  turns_same : (z y : ℕ) (p q : Seat) → p ≡ seat_of x z → q ≡ seat_of x y
      → IsTrue (is_some p.sync) → IsTrue (is_some q.sync) → z ≡ y
  turns_same z y p q is other held holds = law.orders.one_holder_a_turn.one Sync z y
      (ap (λ (t : Seat). is_some t.sync) (sym is) ∙ held)
      (ap (λ (t : Seat). is_some t.sync) (sym other) ∙ holds)

  -- an own box is not one that was gathered: its group is the current one
  own_or_taken : (z b : ℕ) (p q : Seat) (h : Hands) → p ≡ seat_of x z → HasOwn z p.append b
      → Gathers r.boxed.contents x.append size.seats q h b → ⊥
  own_or_taken z b p q h is own G =
      let T = own_group z b p.append own in
      let g : ℕ = T.0 in
      let in_it = ap (λ (t : Seat). t.append) (sym is) ∙ T.1 in
      let high = group_low x law Append z g in_it in
      let low = (law.orders.counts_stand_for_seats Append).nobody_below z g in_it in
      let passed = G.passed in
      let now : g ≡ x.append.current = omega arith in
      let odd : g % 2 ≡ x.append.current % 2 = ap (λ (n : ℕ). n % 2) now in
      let at : b ≡ 1 + 2 * z + g % 2 = T.2 in
      G.parity (omega arith)

  module _ (z y b : ℕ) (p q : Seat) (h k : Hands) (is : p ≡ seat_of x z) (other : q ≡ seat_of x y)
      (H : KnowsHands z p h) (J : KnowsHands y q k) where
    own_first : HasOwn z p.append b → HoldsIn y q.append (is_some q.sync) k.box_taken b → z ≡ y
    own_first own at = elim at [
      | inl yours ↦ (let T = own_group z b p.append own in let U = own_group y b q.append yours in
          let t : b ≡ 1 + 2 * z + T.0 % 2 = T.2 in
          let u : b ≡ 1 + 2 * y + U.0 % 2 = U.2 in
          omega arith)
      | inr more ↦ elim more [
        | inl desk ↦ absurd (let T = own_group z b p.append own in
            let t : b ≡ 1 + 2 * z + T.0 % 2 = T.2 in let d : b ≡ 0 = desk.1 in omega arith)
        | inr taken ↦ absurd (own_or_taken z b p q k is own (J.other b taken))
      ]
    ]

    desk_first : HasDesk (is_some p.sync) b → HoldsIn y q.append (is_some q.sync) k.box_taken b
        → z ≡ y
    desk_first desk at = elim at [
      | inl yours ↦ absurd (let U = own_group y b q.append yours in
          let u : b ≡ 1 + 2 * y + U.0 % 2 = U.2 in let d : b ≡ 0 = desk.1 in omega arith)
      | inr more ↦ elim more [
        | inl theirs ↦ turns_same z y p q is other desk.0 theirs.0
        | inr taken ↦ absurd (let up = (J.other b taken).above in let d : b ≡ 0 = desk.1 in
            omega arith)
      ]
    ]

    taken_first : h.box_taken ≡ Some b → HoldsIn y q.append (is_some q.sync) k.box_taken b → z ≡ y
    taken_first mine at = elim at [
      | inl yours ↦ absurd (own_or_taken y b q p h other yours (H.other b mine))
      | inr more ↦ elim more [
        | inl desk ↦ absurd (let up = (H.other b mine).above in let d : b ≡ 0 = desk.1 in
            omega arith)
        | inr taken ↦ turns_same z y p q is other (H.other b mine).holds (J.other b taken).holds
      ]
    ]

    same_holder : HoldsIn z p.append (is_some p.sync) h.box_taken b
        → HoldsIn y q.append (is_some q.sync) k.box_taken b → z ≡ y
    same_holder mine at = elim mine [
      | inl own ↦ own_first own at
      | inr more ↦ elim more [
        | inl desk ↦ desk_first desk at
        | inr taken ↦ taken_first taken at
      ]
    ]

  abbrev Told : ℕ → Role → View → Type 0
  Told n ρ t = Knows x r.events r.owner r.made r.boss n ρ t.part t.trail t.returned

  abbrev Hand : Role → View → Type 0
  Hand ρ t = HandsAs r.boxed.contents (shown o size.at_open r.kept_to r.filed r.dropped x)
      r.boxed.pending
      r.boxed.progress x.append
      size.seats t.part t.hands ρ

  abbrev Has : ℕ → Role → View → Type 0
  Has b ρ t = HoldsAs t.part.append (is_some t.part.sync) t.hands.box_taken b ρ

  -- No two views hold one box.
  pub one_holder : (j i b : ℕ) (u v : View) → get_elem? s.views j ≡ some u
      → get_elem? s.views i ≡ some v → HoldsBox u b → HoldsBox v b → j ≡ i
  one_holder j i b u v at there = by u.role v.role (r.each_seat j u at).1 (r.each_seat i v there).1
      (r.boxed.in_hands j u at) (r.boxed.in_hands i v there)
    where
      by : (ρ σ : Role) → Told j ρ u → Told i σ v → Hand ρ u → Hand σ v → Has b ρ u
          → Has b σ v → j ≡ i
      by (Opener n) σ k q H J a c = absurd a
      by Spent σ k q H J a c = absurd a
      by (Steps z) (Opener n) k q H J a c = absurd c
      by (Steps z) Spent k q H J a c = absurd c
      by (Steps z) (Steps y) k q H J a c = sym k.0.1 ∙ (ap r.owner
          (same_holder z y b u.part v.part u.hands v.hands k.0.2 q.0.2 H J a c) ∙ q.0.1)

  -- While nobody holds the Sync turn, the desk is at home.
  pub desk_free : ((z : ℕ) → holds_turn (seat_of x z) Sync ≡ false) → IsFree s.views desk_box
  desk_free free j u at = by u.role (r.each_seat j u at).1 (r.boxed.in_hands j u at)
    where
      by : (ρ : Role) → Told j ρ u → Hand ρ u → Has desk_box ρ u → ⊥
      by (Opener n) k H h = h
      by Spent k H h = h
      by (Steps z) k H h = elim h [
        | inl own ↦ absurd (let T = own_group z desk_box u.part.append own in
            let t : 0 ≡ 1 + 2 * z + T.0 % 2 = T.2 in omega arith)
        | inr more ↦ elim more [
          | inl desk ↦ false≢true (sym (free z)
              ∙ (ap (λ (p : Seat). is_some p.sync) (sym k.0.2) ∙ desk.0))
          | inr taken ↦ absurd (let up = (H.other desk_box taken).above in omega arith)
        ]
      ]
