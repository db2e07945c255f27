use Rattle.std.specs.Prelude.{IfSome}
use Rattle.std.proofs.Common.{◌≡◌, ◌+◌, ℕ, suc, Bool, false, Option, refl, ◌∙◌, subst, arith}
use Rattle.path_flush.specs.FlushGathers.{HoldsGathered}
use Rattle.path_flush.specs.FlushReads.{HasRead}
use Rattle.path_flush.proofs.FilingGathers.{none_gathered}
use Rattle.path_flush.proofs.FlushReadSteps.{none_read_yet, then_read}
use Rattle.path_flush.proofs.flush_gathering.gather_boxes.Goals as goal

pub loop-seat-init : goal.loop-seat-init
loop-seat-init g c = let m = c.args.member in record {
  stays = ((c.requires.table.0, c.requires.table.1), refl);
  boxes = refl;
  steps = none_read_yet m.number c.args.table.0 m.seat.me.0;
  reads = c.requires.reads;
  gathered = none_gathered c.args.table _ m.seat.me.0.hands c.requires.void.0
      c.requires.void.1;
}

pub returns-in-None-clause-steps : goal.returns-in-None-clause-steps
returns-in-None-clause-steps g c = let I = c.loop-seat.invariant in
    then_read c.args.member.number c.loop-seat.member.number c.args.table.0 _ _ _ I.stays.1 I.steps
    c.gather_box-next.ensures.steps

pub returns-in-None-clause-all : goal.returns-in-None-clause-all
returns-in-None-clause-all g c = let R = c.gather_box-next.ensures.reads in
    (R.read, (R.reads, R.of_table, R.of_memtable, R.none_taken, R.kind))

pub loop-seat-preserved : goal.loop-seat-preserved
loop-seat-preserved g c = let I = c.loop-seat.invariant in let G = c.gather_box-next in
    let B = G.ensures in let s = c.loop-seat.seat in let up : suc s ≡ s + 1 = omega arith in
    let after = G.result.0.seat.me.0.hands in record {
      stays = (B.same.0.0, B.same.0.1 ∙ I.stays.1);
      boxes = B.same.1 ∙ I.boxes;
      steps = then_read c.args.member.number c.loop-seat.member.number c.args.table.0 _ _ _
          I.stays.1 I.steps B.steps;
      reads = subst (λ (k : ℕ). HasRead c.args.table.0 c.args.memtable false k after) up
          B.reads;
      gathered = subst (λ (o : Option Bool). IfSome o (λ k.
          HoldsGathered c.args.table G.new.cells k after)) c.in-Some.is B.gathered;
    }
