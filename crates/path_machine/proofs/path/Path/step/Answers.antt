use Rattle.path_machine.proofs.steps.Limits.{made_within}
use Rattle.path_machine.proofs.path.Path.step.Goals as goal

pub invariant_of-self-inside : goal.invariant_of-self-inside
invariant_of-self-inside c =
    (made_within c.make.result _ _ c.args.event.now c.self.inside.within c.make.ensures, _)
