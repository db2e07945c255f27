use Rattle.std.proofs.Common.{◌+◌, [], refl, ◌∙◌}
use Rattle.path_core.specs.declared.event.Event.TheVariants.{Look}
use Rattle.path_core.specs.declared.event.Place.TheVariants.{Count, Oldest}
use Rattle.path_rule.proofs.seats.RoundsGo.{one, next, none_yet}
use Rattle.path_rule.proofs.seats.LeastStays.{advance_leaves, count_leaves, oldest_leaves}
use Rattle.path_rounds.proofs.waiting.advance_to.Goals as goal

pub returns-then-oldest-upto-clause-steps : goal.returns-then-oldest-upto-clause-steps
returns-then-oldest-upto-clause-steps g c =
    let O = c.seek_oldest-oldest in let I = c.loop.invariant in
    next c.args.holder.member.number c.loop.member.number [] [] _ _ _ I.number I.steps
    (one _ (Look _ (Oldest c.args.order)) O.result _ _ refl O.ensures.step)

pub loop-preserved-then-count-oldest : goal.loop-preserved-then-count-oldest
loop-preserved-then-count-oldest g c =
    let O = c.seek_oldest-oldest in let C = c.seek_count-count in let I = c.loop.invariant in
    let A = c.advance.ensures in let w = c.args.holder.member.number in
    let o = O.ensures.same.1 ∙ I.number in let n = C.ensures.same.1 ∙ o in record {
      next = tt;
      finite = tt;
      table = A.same.0 ∙ (C.ensures.same.0 ∙ (O.ensures.same.0 ∙ I.table));
      number = A.same.1 ∙ n;
      size = A.same.3 ∙ (C.ensures.same.3 ∙ (O.ensures.same.3 ∙ I.size));
      boxes = A.same.2 ∙ (C.ensures.same.2 ∙ (O.ensures.same.2 ∙ I.boxes));
      holds = A.turn.0;
      saw = A.turn.1 _ (C.ensures.turn.1 _ (O.ensures.turn.2 _ I.saw));
      steps = next w _ [] [] _ _ _ n (next w _ [] [] _ _ _ o
          (next w _ [] [] _ _ _ I.number I.steps
          (one _ (Look _ (Oldest c.args.order)) O.result _ _ refl O.ensures.step))
          (one _ (Look _ (Count c.args.order O.result)) C.result _ _ refl C.ensures.step)) A.steps;
      marker = A.marker ∙ (C.ensures.marker ∙ (O.ensures.marker ∙ I.marker));
      runs = λ r. A.runs (C.ensures.runs (O.ensures.runs (I.runs r)));
      hands = A.hands ∙ (C.ensures.hands ∙ (O.ensures.hands ∙ I.hands));
      tables = advance_leaves C.new.member.seat.me.0 c.advance.new.member.seat.me.0
          C.new.member.number (O.result + 1) c.args.order (O.result + 1) A.step
          ∙ (count_leaves O.new.member.seat.me.0 C.new.member.seat.me.0 O.new.member.number
          C.result c.args.order O.result C.ensures.step
          ∙ (oldest_leaves c.loop.member.seat.me.0 O.new.member.seat.me.0 c.loop.member.number
          O.result c.args.order O.ensures.step ∙ I.tables));
      stages = λ t. A.stages t ∙ (C.ensures.stages t ∙ (O.ensures.stages t ∙ I.stages t));
    }

pub loop-preserved : goal.loop-preserved
loop-preserved g c =
    let O = c.seek_oldest-oldest in let C = c.seek_count-count in let I = c.loop.invariant in
    let w = c.args.holder.member.number in let o = O.ensures.same.1 ∙ I.number in record {
      next = tt;
      finite = tt;
      table = C.ensures.same.0 ∙ (O.ensures.same.0 ∙ I.table);
      number = C.ensures.same.1 ∙ o;
      size = C.ensures.same.3 ∙ (O.ensures.same.3 ∙ I.size);
      boxes = C.ensures.same.2 ∙ (O.ensures.same.2 ∙ I.boxes);
      holds = C.ensures.turn.0;
      saw = C.ensures.turn.1 _ (O.ensures.turn.2 _ I.saw);
      steps = next w _ [] [] _ _ _ o (next w _ [] [] _ _ _ I.number I.steps
          (one _ (Look _ (Oldest c.args.order)) O.result _ _ refl O.ensures.step))
          (one _ (Look _ (Count c.args.order O.result)) C.result _ _ refl C.ensures.step);
      marker = C.ensures.marker ∙ (O.ensures.marker ∙ I.marker);
      runs = λ r. C.ensures.runs (O.ensures.runs (I.runs r));
      hands = C.ensures.hands ∙ (O.ensures.hands ∙ I.hands);
      tables = count_leaves O.new.member.seat.me.0 C.new.member.seat.me.0 O.new.member.number
          C.result c.args.order O.result C.ensures.step
          ∙ (oldest_leaves c.loop.member.seat.me.0 O.new.member.seat.me.0 c.loop.member.number
          O.result c.args.order O.ensures.step ∙ I.tables);
      stages = λ t. C.ensures.stages t ∙ (O.ensures.stages t ∙ I.stages t);
    }

pub loop-init : goal.loop-init
loop-init g c = record {
  next = tt;
  finite = tt;
  table = refl;
  number = refl;
  size = refl;
  boxes = refl;
  holds = c.args.holder.holds;
  saw = c.requires.current.0;
  steps = none_yet c.args.holder.member.number _ _ refl;
  marker = refl;
  runs = λ r. r;
  hands = refl;
  tables = refl;
  stages = λ t. refl;
}

pub returns-then-oldest-upto-clause-stages : goal.returns-then-oldest-upto-clause-stages
returns-then-oldest-upto-clause-stages g c =
    λ t. c.seek_oldest-oldest.ensures.stages t ∙ c.loop.invariant.stages t

pub returns-then-oldest-upto-clause-tables : goal.returns-then-oldest-upto-clause-tables
returns-then-oldest-upto-clause-tables g c = let O = c.seek_oldest-oldest in
    oldest_leaves c.loop.member.seat.me.0 O.new.member.seat.me.0 c.loop.member.number O.result
    c.args.order O.ensures.step ∙ c.loop.invariant.tables

pub returns-then-oldest-upto-clause-runs : goal.returns-then-oldest-upto-clause-runs
returns-then-oldest-upto-clause-runs g c =
    λ r. c.seek_oldest-oldest.ensures.runs (c.loop.invariant.runs r)

pub returns-then-oldest-upto-clause-marker : goal.returns-then-oldest-upto-clause-marker
returns-then-oldest-upto-clause-marker g c =
    c.seek_oldest-oldest.ensures.marker ∙ c.loop.invariant.marker
