use Rattle.path_machine.proofs.steps.Asked.{taken}
use Rattle.path_machine.proofs.turn_allowed.allows_take.Goals as goal

pub returns-then-is_idle : goal.returns-then-is_idle
returns-then-is_idle c =
    taken c.args.state.now c.args.seat.now c.args.turn c.is_held.result
    (c.is_idle.ensures.0 c.if-is_idle.true) c.is_held.ensures
