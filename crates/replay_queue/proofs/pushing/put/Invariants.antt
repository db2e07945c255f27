use Rattle.std.proofs.Common.{◌≡◌}
use Rattle.crossbeam_queue.specs.Passes.{view, IsSamePass}
use Rattle.replay_queue.specs.Has.{Has}
use Rattle.replay_queue.proofs.pushing.put.Given as goal

-- nothing is put yet, and what was taken was done
abbrev pub invariant-loop : goal.invariant-loop
invariant-loop g l = record {
  can_next : (goal.iterator-loop g).can_next l.iterator';
  is_finite : (goal.iterator-loop g).is_finite l.iterator';
  same : IsSamePass l.fn.pass l.pass;
  parts : (view l.pass).parts ≡ (view l.fn.pass).parts;
  put : (view l.pass).put ≡ (view l.fn.pass).put;
  job : l.job ≡ l.fn.job;
  own : Has (g.W.Work.done l.task) l.fn.own (view l.fn.pass).taken
      → Has (g.W.Work.done l.task) l.own (view l.pass).taken;
}
