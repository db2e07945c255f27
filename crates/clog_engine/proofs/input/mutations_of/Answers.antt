use Rattle.clog_engine.proofs.FewMutations.{few_mutations}
use Rattle.clog_engine.proofs.input.mutations_of.Goals as goal

pub returns-in-Ok-clause-few : goal.returns-in-Ok-clause-few
returns-in-Ok-clause-few g c =
    few_mutations c.args.bytes.now c.mutations_on.result c.mutations_on.ensures.mutations
