use Rattle.std.proofs.Common.{◌≡◌, ℕ, ◌≤◌, List, None, Option, is_some, IsTrue, refl, sym, subst}
use Rattle.std.proofs.Common.{arith}
use Rattle.path_core.specs.declared.seat.FlushTurn.{FlushTurn}
use Rattle.path_rule.specs.declared.view.OwnStep.{OwnStep}
use Rattle.path_rule.specs.declared.view.View.{View}
use Rattle.path_rule.specs.Issued.{issued_in, opened_in}
use Rattle.path_rule.specs.Switches.{FlushNewest, FlushOldest}
use Rattle.path_table.specs.Members.{part_of}
use Rattle.path_tests.proofs.barriers.switched.Goals as goal

abbrev Paid : View → Type 0
Paid v = opened_in v.trail ≤ issued_in v.trail

-- in no group, with no Sync turn, and no barrier was issued
abbrev Rests : View → Type 0
Rests v = (v.part.write ≡ None) × (v.part.append ≡ None) × (v.part.sync ≡ None)
    × (issued_in v.trail ≡ 0)

pub open_memtable-requires-clause-turn : goal.open_memtable-requires-clause-turn
open_memtable-requires-clause-turn g c =
    let T = c.take_flush in let O = c.look_oldest_live-oldest in let N = c.look_newest-newest in
    let P = c.clear_place in let keeps = P.ensures.keeps in
    let oldest = O.ensures.turn (subst (λ (o : Option FlushTurn). IsTrue (is_some o))
    (sym (T.ensures.holds c.if-take_flush-ne0.false)) refl) in
    let newest = N.ensures.turn (subst (λ (o : Option FlushTurn). IsTrue (is_some o))
    (sym oldest.1) refl) in
    let first = subst (λ (n : ℕ). FlushOldest 0 (part_of N.new.member) n) c.if-oldest-ne0.false
    (N.ensures.keeps O.result oldest) in
    let last = subst (λ (n : ℕ). FlushNewest 0 (part_of N.new.member) n) c.if-newest-ne0.false
    newest in (
      0,
      keeps.newest 0 last,
      keeps.oldest 0 first,
      refl,
      subst Paid (sym P.ensures.step.view) (subst Paid (sym N.ensures.step.view)
          (subst Paid (sym O.ensures.step.view)
          (subst Paid (sym (T.ensures.hit c.if-take_flush-ne0.false).view)
          (subst (λ (trail : List OwnStep). opened_in trail ≤ issued_in trail)
          (sym c.requires.fresh) (omega arith))))),
    )

abbrev rests : (g : _) (c : goal.After-finalise_memtable-bound g)
    → Rests c.finalise_memtable-bound.new.member.seat.me.0
rests g c = subst Rests (sym c.finalise_memtable-bound.ensures.step.view)
    (subst Rests (sym c.raise_marked.ensures.step.1.view)
    (subst Rests (sym c.look_marked-key.ensures.step.view)
    (subst Rests (sym c.mark_memtable.ensures.step.view)
    (subst Rests (sym c.open_memtable.ensures.step.view)
    (subst Rests (sym c.clear_place.ensures.step.view)
    (subst Rests (sym c.look_newest-newest.ensures.step.view)
    (subst Rests (sym c.look_oldest_live-oldest.ensures.step.view)
    (subst Rests (sym (c.take_flush.ensures.hit c.if-take_flush-ne0.false).view) (
      c.requires.idle.0.write,
      c.requires.idle.0.append,
      c.requires.idle.1,
      subst (λ (trail : List OwnStep). issued_in trail ≡ 0) (sym c.requires.fresh) refl,
    )))))))))

pub returns-clause-idle : goal.returns-clause-idle
returns-clause-idle g c = let r = rests g c in (record { write = r.0; append = r.1 }, r.2)

pub returns-clause-issued : goal.returns-clause-issued
returns-clause-issued g c = (rests g c).3
