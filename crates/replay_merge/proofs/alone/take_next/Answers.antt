use Rattle.std.proofs.Common.{IfSome, Option, subst}
use Rattle.replay_merge.specs.declared.piped.Piped.{Piped}
use Rattle.replay_merge.specs.Piped.{IsDone}
use Rattle.replay_merge.proofs.alone.take_next.Goals as goal

pub returns-in-Ok : goal.returns-in-Ok
returns-in-Ok c = λ before is.
    c.in-Ok.ensures before
    (subst (λ (p : Option Piped). IfSome p (IsDone c.args.piping.now.tables.now before)) c.in-Some.is
    is)
