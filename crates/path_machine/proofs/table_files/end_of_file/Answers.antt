use Rattle.std.proofs.Common.{arith}
use Rattle.path_machine.proofs.steps.Filed.{no_file}
use Rattle.path_machine.proofs.table_files.end_of_file.Goals as goal

pub returns : goal.returns
returns c =
    let past = c.loop-file-test.false in
    no_file c.args.files.now c.args.table c.args.key
    (λ k d inside. c.loop-file.invariant k d (omega arith))
