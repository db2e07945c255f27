use Rattle.std.proofs.Common.{◌≡◌, []}
use Rattle.crossbeam_queue.specs.Passes.{view, IsPassOf}
use Rattle.replay_queue.specs.Fair.{hand}
use Rattle.replay_queue.specs.Has.{Has}
use Rattle.replay_queue.proofs.working.work.Given as goal

-- the state is of what was taken
abbrev pub invariant-loop : goal.invariant-loop
invariant-loop g l = record {
  can_next : (goal.iterator-loop g).can_next l.iterator';
  is_finite : (goal.iterator-loop g).is_finite l.iterator';
  queue : IsPassOf l.bench l.pass;
  view_is : view l.pass ≡ hand 1 [] (view l.pass).taken;
  own : Has (g.W.Work.done l.task) l.own (view l.pass).taken;
}
