use Rattle.std.proofs.Common.{ℕ, subst}
use Rattle.clog_engine.specs.Input.{IsSized}
use Rattle.clog_engine.proofs.Applied.{file_applies}
use Rattle.clog_engine.proofs.applying.apply.Goals as goal

pub returns-in-Ok-clause-applies : goal.returns-in-Ok-clause-applies
returns-in-Ok-clause-applies g c =
    let read = c.in-Ok.ensures in
    file_applies c.args.options _ read.bytes read.mutations read.taken
    (subst (λ (capacity : ℕ). IsSized capacity read.bytes read.mutations)
    c.sizes_of-sizes.ensures.capacity read.sized) c.apply_shares.result.1
    (c.apply_shares.ensures.applies _ _ _ _ read.mutations read.planned)
