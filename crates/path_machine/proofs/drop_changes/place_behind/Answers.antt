use Rattle.std.proofs.Common.{arith}
use Rattle.path_machine.proofs.steps.Logged.{found_nowhere}
use Rattle.path_machine.proofs.drop_changes.place_behind.Goals as goal

pub returns : goal.returns
returns c first =
    let past = c.loop-place-test.false in
    found_nowhere c.args.numbers.now c.args.number
    (λ k d inside. c.loop-place.invariant k d (omega arith) (omega arith))
