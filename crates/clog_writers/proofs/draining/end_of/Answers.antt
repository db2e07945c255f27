use Rattle.std.proofs.Common.{◌≤◌, length, arith}
use Rattle.std.proofs.lemmas.Grind.{common_steps}
use Rattle.clog_closing.proofs.LastEnd.{last_ends}
use Rattle.clog_writers.proofs.draining.end_of.Goals as goal

pub returns : goal.returns
returns c =
    let some : 1 ≤ length c.args.notes.now =
    grind (arith, common_steps, c.is_empty.ensures, c.if-is_empty.false) in
    last_ends c.args.notes.now _ some
