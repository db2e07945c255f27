use Rattle.path_machine.proofs.steps.Stepped.{stepped_lawful}
use Rattle.path_machine.proofs.lawful_path.LawfulPath.step.Goals as goal

pub invariant_of-self-inside : goal.invariant_of-self-inside
invariant_of-self-inside c = (
  stepped_lawful c.step.result _ c.args.event.now _ c.self.inside.lawful c.requires
      c.step.ensures,
  _,
)
