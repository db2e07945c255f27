use Rattle.std.proofs.Common.{◌≡◌}
use Rattle.crossbeam_queue.specs.Passes.{view, IsPassOf}
use Rattle.replay_queue.specs.Has.{Has}
use Rattle.replay_queue.proofs.working.drain.Given as goal

abbrev pub invariant-loop : goal.invariant-loop
invariant-loop g l = record {
  can_next : (goal.iterator-loop g).can_next l.iterator';
  is_finite : (goal.iterator-loop g).is_finite l.iterator';
  queue : IsPassOf l.bench l.pass;
  all : (view l.pass).parts ≡ 1024;
  put : (view l.pass).put ≡ (view l.fn.done.pass).put;
  own : Has (g.W.Work.done l.task) l.own (view l.pass).taken;
}
