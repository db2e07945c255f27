use Rattle.clog_scan.proofs.Fed.{first_torn}
use Rattle.clog_scan.proofs.feeding.first_end.Goals as goal

pub returns-in-Some-Err : goal.returns-in-Some-Err
returns-in-Some-Err c =
    first_torn c.args.len c.args.id c.in-Some-Err.cause c.ranges.id.fits
    (rw c.in-Some-Err.field-0-is at c.in-Some-Err.ensures)
