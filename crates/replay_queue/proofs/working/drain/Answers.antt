use Rattle.std.proofs.Common.{IsPermutation, arith, subst}
use Rattle.crossbeam_queue.specs.Passes.{view}
use Rattle.replay_queue.proofs.Steps.{takes, learns, settles}
use Rattle.replay_queue.proofs.working.drain.Goals as goal

pub pop_as-requires-clause-rule : goal.pop_as-requires-clause-rule
pop_as-requires-clause-rule g c = (
  takes _ _ (omega (arith, c.loop.invariant.all)),
  learns _ _ c.loop.invariant.all,
)

pub returns-in-None-pop_as : goal.returns-in-None-pop_as
returns-in-None-pop_as g c =
    let v = c.loop.invariant in
    let taken = (view c.loop.pass).taken in (
      taken,
      subst (IsPermutation taken) v.put
          (settles (view c.loop.pass) c.in-None-pop_as.ensures.rule.1),
      v.own,
    )
