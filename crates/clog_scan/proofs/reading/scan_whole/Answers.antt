use Rattle.std.proofs.Common.{◌∙◌, sym, []}
use Rattle.clog_scan.proofs.Theorems.{segment_without_header}
use Rattle.clog_scan.proofs.reading.scan_whole.Goals as goal

pub returns-in-Err : goal.returns-in-Err
returns-in-Err c = (
  [],
  segment_without_header c.args.bytes.now c.args.id c.in-Err.cause c.ranges.id.fits
      (sym c.in-Err.ensures.rule),
  c.new-in-Err.ensures ∙ c.new.ensures.items,
)
