use Rattle.std.proofs.Common.{◌≡◌, ◌-◌, ℕ, suc, true, refl, sym, ap, ◌∙◌, subst, arith}
use Rattle.std.proofs.lemmas.Option.{none-some}
use Rattle.path_rule.specs.declared.view.View.{View}
use Rattle.path_rule.specs.Flushes.{HasEmptied}
use Rattle.path_rule.specs.HandsAfter.{first_read}
use Rattle.path_rule.specs.Switches.{FlushOldest, MayBeginRead}
use Rattle.path_flush.proofs.FlushReadSteps.{none_read_yet, on_read, then_read}
use Rattle.path_flush.proofs.flush_reading.empty_below.Goals as goal

pub returns-then-memtable-eq0-clause-steps : goal.returns-then-memtable-eq0-clause-steps
returns-then-memtable-eq0-clause-steps g c =
    none_read_yet c.args.member.number c.args.table.0 c.args.member.seat.me.0

pub returns-then-memtable-eq0-clause-emptied : goal.returns-then-memtable-eq0-clause-emptied
returns-then-memtable-eq0-clause-emptied g c = let is = c.if-memtable-eq0.true in
    let v = c.args.member.seat.me.0 in let t = c.args.table.0 in
    let first : c.args.memtable ≡ 0 = omega arith in
    subst (λ (k : ℕ). HasEmptied c.args.path.now.size.seats v t k) (sym first) (
      subst (λ (k : ℕ). MayBeginRead t v k) first c.requires.stage,
      λ q has. absurd (none-some q (sym c.requires.unread ∙ has)),
    )

pub begin_emptying-requires-clause-stage : goal.begin_emptying-requires-clause-stage
begin_emptying-requires-clause-stage g c = let some = c.if-memtable-eq0.false in
    let up : suc (c.args.memtable - 1) ≡ c.args.memtable = omega arith in
    subst (λ (k : ℕ). MayBeginRead c.args.table.0 c.args.member.seat.me.0 k) (sym up)
    c.requires.stage

pub begin_emptying-requires-clause-oldest : goal.begin_emptying-requires-clause-oldest
begin_emptying-requires-clause-oldest g c = let some = c.if-memtable-eq0.false in
    let up : suc (c.args.memtable - 1) ≡ c.args.memtable = omega arith in
    subst (λ (k : ℕ). FlushOldest c.args.table.0 c.args.member.seat.me.0.part k) (sym up)
    c.requires.oldest

pub begin_emptying-requires-clause-unread : goal.begin_emptying-requires-clause-unread
begin_emptying-requires-clause-unread g c =
    λ q has. absurd (none-some q (sym c.requires.unread ∙ has))

pub empty_boxes-requires-clause-table : goal.empty_boxes-requires-clause-table
empty_boxes-requires-clause-table g c = let B = c.begin_emptying.ensures in
    (B.same.0 ∙ c.requires.table.0, ap (λ (u : View). u.size) B.step.view ∙ c.requires.table.1)

pub empty_boxes-requires-clause-reads : goal.empty_boxes-requires-clause-reads
empty_boxes-requires-clause-reads g c = record {
  read = first_read c.args.table.0 (c.args.memtable - 1) true;
  reads = ap (λ (u : View). u.hands.reading) c.begin_emptying.ensures.step.view;
  of_table = refl;
  of_memtable = refl;
  kind = refl;
  none_taken = refl;
  seen_to = refl;
}

pub returns-clause-same : goal.returns-clause-same
returns-clause-same g c = let B = c.begin_emptying.ensures in let E = c.empty_boxes.ensures in
    ((E.same.0.0, E.same.0.1 ∙ B.same.1), E.same.1 ∙ B.same.2)

pub returns-clause-steps : goal.returns-clause-steps
returns-clause-steps g c = let B = c.begin_emptying in let E = c.empty_boxes in
    let t = c.args.table.0 in
    then_read c.args.member.number B.new.member.number t _ _ _ B.ensures.same.1
    (on_read c.args.member.number t B.result c.args.table _ _ _ B.ensures.step) E.ensures.steps

pub returns-clause-emptied : goal.returns-clause-emptied
returns-clause-emptied g c = let some = c.if-memtable-eq0.false in let E = c.empty_boxes in
    let up : suc (c.args.memtable - 1) ≡ c.args.memtable = omega arith in
    let R = E.ensures.reads in
    subst (λ (k : ℕ). HasEmptied c.args.path.now.size.seats E.result.seat.me.0 c.args.table.0 k) up
    (R.read, R.reads, R.of_table, R.of_memtable, R.none_taken, R.seen_to, R.kind)
