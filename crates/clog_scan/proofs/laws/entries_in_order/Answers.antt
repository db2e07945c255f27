use Rattle.clog_scan.proofs.Order.{laid}
use Rattle.clog_scan.proofs.laws.entries_in_order.Goals as goal

pub returns : goal.returns
returns c = laid
