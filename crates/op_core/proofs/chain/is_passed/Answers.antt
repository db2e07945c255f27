use Rattle.std.proofs.Common.{◌<◌, length, refl, arith}
use Rattle.op_core.proofs.Finished.{test_is_passed}
use Rattle.op_core.proofs.chain.is_passed.Goals as goal

pub returns : goal.returns
returns c =
    let made : c.args.group < length c.args.tallies.now = omega arith in
    test_is_passed c.args.tallies.now c.args.tallies.now c.args.group c.are_finished.result
    made refl c.are_finished.ensures
