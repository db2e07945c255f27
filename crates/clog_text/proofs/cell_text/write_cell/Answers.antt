use Rattle.std.proofs.Common.{append_assoc, arith}
use Rattle.clog_text.specs.CellTexts.{cell_tokens}
use Rattle.clog_text.proofs.cell_text.write_cell.Goals as goal

pub returns : goal.returns
unfolding cell_tokens
returns c = grind (arith, append_assoc)
