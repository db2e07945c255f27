use Rattle.std.proofs.Common.{Ok, ap, arith}
use Rattle.clog_scan.proofs.step.next_step.Goals as goal

pub returns-in-Ok-Section : goal.returns-in-Ok-Section
returns-in-Ok-Section c = (
  omega arith,
  c.in-Ok-Section.ensures.written c.in-Ok-Section.next (ap Ok c.in-Ok-Section.field-0-is),
)
