use Rattle.clog_scan.proofs.Order.{ranges_where_ok}
use Rattle.clog_scan.proofs.reading.scan.Goals as goal

pub returns-clause-ranges : goal.returns-clause-ranges
returns-clause-ranges c =
    ranges_where_ok c.args.bytes.now c.args.id c.scan_whole.result c.scan_whole.ensures
