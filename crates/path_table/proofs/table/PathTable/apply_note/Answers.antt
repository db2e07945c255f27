use Rattle.std.proofs.Common.{◌≡◌, ℕ, Some, refl, sym, ap, ◌∙◌, subst, arith}
use Rattle.path_core.specs.declared.event.Event.TheVariants.{Look}
use Rattle.path_core.specs.declared.event.Place.TheVariants.{Newest}
use Rattle.path_rule.specs.declared.view.View.{View}
use Rattle.path_rule.specs.Applying.{put_there, MayApply}
use Rattle.path_rule.specs.Boxes.{memtable_box}
use Rattle.path_rule.specs.HandsAfter.{with_applied}
use Rattle.path_rule.specs.Rule.{view_after, with_hands}
use Rattle.path_rule.proofs.seats.Applying.{laid_there, may_still, puts_note}
use Rattle.path_table.proofs.table.PathTable.apply_note.Goals as goal

pub give_memtable-requires-clause-note : goal.give_memtable-requires-clause-note
give_memtable-requires-clause-note g c =
    let P = c.put_held-member in let D = c.take_memtable.ensures.step.1 in
    let N = c.requires.copy in let v = c.args.member.seat.me.0 in
    let view = P.ensures.same.1 ∙ D.view in
    let number : P.result.number ≡ c.args.member.number =
    P.ensures.same.0.1 ∙ c.take_memtable.ensures.same.1 in (
      N.0,
      subst (λ (w : ℕ). MayApply P.result.seat.me.0 w c.args.table.0 N.0) (sym number)
          (may_still v c.args.member.number c.args.table c.take_memtable.result _ N.0
          P.result.seat.me.0 c.requires.free view refl N.2),
      ap (λ (u : View). u.hands.memtable_box) view ∙ ap (λ (w : ℕ).
          Some (memtable_box c.args.self.now.size.seats w c.args.table.0 c.args.memtable))
          (sym number),
      laid_there _ _ _ _ _ N.0 _ c.take_memtable.new.member.seat.me.1 P.ensures.kept
          (omega arith)
          (ap (λ (u : View). u.hands.held) P.ensures.same.1) N.1,
    )

pub returns-clause-puts : goal.returns-clause-puts
returns-clause-puts g c = λ note one.
    let P = c.put_held-member in let D = c.take_memtable.ensures.step.1 in
    let G = c.give_memtable in let v = c.args.member.seat.me.0 in
    let view = P.ensures.same.1 ∙ D.view in
    let number : P.result.number ≡ c.args.member.number =
    P.ensures.same.0.1 ∙ c.take_memtable.ensures.same.1 in
    let did = G.ensures.step note (laid_there _ _ _ _ _ note _ c.take_memtable.new.member.seat.me.1
    P.ensures.kept (omega arith) (ap (λ (u : View). u.hands.held) P.ensures.same.1) one) in
    puts_note v P.result.seat.me.0 G.new.member.seat.me.0 c.args.member.number c.args.table
    c.args.memtable c.take_memtable.result G.result _ _ note c.requires.free view
    (subst (λ (w : ℕ). G.new.member.seat.me.0 ≡ view_after (with_hands
    (with_applied (put_there c.args.table c.args.memtable note) P.result.seat.me.0.hands)
    P.result.seat.me.0) (Look w (Newest c.args.table)) G.result) number did.view)
