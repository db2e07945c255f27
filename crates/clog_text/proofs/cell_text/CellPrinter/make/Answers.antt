use Rattle.std.proofs.Common.{append_assoc, arith}
use Rattle.clog_text.proofs.CellPrinted.{line_printed}
use Rattle.clog_text.proofs.cell_text.CellPrinter.make.Goals as goal

pub returns : goal.returns
returns c =
    let key = c.args.key.now in
    let cell = c.args.cell.now in
    grind (arith, line_printed key cell, append_assoc)
