use Rattle.std.proofs.Common.{[], ◌∙◌}
use Rattle.path_flush.proofs.SwitchGoes.{quiet_round, then_quiet}
use Rattle.path_flush.proofs.flush_rounds.renew_sync.Goals as goal

pub returns-clause-steps : goal.returns-clause-steps
returns-clause-steps g c = let G = c.give_sync_beside-member in let T = c.take_sync_beside in
    then_quiet c.args.member.number G.result.number _ _ _ G.ensures.same.1 G.ensures.steps
    (quiet_round G.result.number [] _ _ T.ensures.steps)

pub returns-clause-tables : goal.returns-clause-tables
returns-clause-tables g c =
    λ t. c.take_sync_beside.ensures.tables t ∙ c.give_sync_beside-member.ensures.tables t

pub returns-clause-reading : goal.returns-clause-reading
returns-clause-reading g c =
    c.take_sync_beside.ensures.steps.reading ∙ c.give_sync_beside-member.ensures.reading
