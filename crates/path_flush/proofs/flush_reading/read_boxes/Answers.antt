use Rattle.std.proofs.Common.{◌≡◌, ◌+◌, ℕ, suc, false, refl, ◌∙◌, subst, arith}
use Rattle.path_flush.specs.FlushReads.{HasRead}
use Rattle.path_flush.proofs.FlushReadSteps.{none_read_yet, then_read}
use Rattle.path_flush.proofs.flush_reading.read_boxes.Goals as goal

pub loop-seat-init : goal.loop-seat-init
loop-seat-init g c = let m = c.args.member in record {
  stays = ((c.requires.table.0, c.requires.table.1), refl);
  boxes = refl;
  steps = none_read_yet m.number c.args.table.0 m.seat.me.0;
  reads = c.requires.reads;
  void = c.requires.void;
}

pub returns-then-not-empty-clause-steps : goal.returns-then-not-empty-clause-steps
returns-then-not-empty-clause-steps g c = let I = c.loop-seat.invariant in
    then_read c.args.member.number c.loop-seat.member.number c.args.table.0 _ _ _ I.stays.1 I.steps
    c.read_box-next.ensures.steps

pub loop-seat-preserved : goal.loop-seat-preserved
loop-seat-preserved g c = let I = c.loop-seat.invariant in let B = c.read_box-next.ensures in
    let s = c.loop-seat.seat in let up : suc s ≡ s + 1 = omega arith in record {
      stays = (B.same.0.0, B.same.0.1 ∙ I.stays.1);
      boxes = B.same.1 ∙ I.boxes;
      steps = then_read c.args.member.number c.loop-seat.member.number c.args.table.0 _ _ _
          I.stays.1 I.steps B.steps;
      reads = subst (λ (k : ℕ). HasRead c.args.table.0 c.args.memtable false k
          c.read_box-next.result.0.seat.me.0.hands) up B.reads;
      void = λ q has. let p = I.reads in
          B.void p.read q p.reads has c.if-not-empty.false
          ∙ I.void p.read p.reads;
    }
