use Rattle.std.proofs.Common.{arith}
use Rattle.clog_base.proofs.CrcTable.{table_at}
use Rattle.clog_base.proofs.crc.division_of.Goals as goal

pub returns : goal.returns
returns c = table_at c.args.zeros c.args.byte _ c.requires (omega arith)
