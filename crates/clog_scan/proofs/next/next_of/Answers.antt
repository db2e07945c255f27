use Rattle.std.proofs.Common.{arith}
use Rattle.clog_scan.proofs.Nexts.{entry_next, section_next}
use Rattle.clog_scan.proofs.next.next_of.Goals as goal

pub returns-in-Some-Ok : goal.returns-in-Some-Ok
returns-in-Some-Ok c =
    entry_next c.args.len c.args.id c.args.window.now c.args.at c.args.until c.in-Some-Ok.size
    c.if-at-until.true c.requires.within (rw c.in-Some-Ok.field-0-is at c.in-Some-Ok.ensures)

pub returns-in-Some-Ok-Section : goal.returns-in-Some-Ok-Section
returns-in-Some-Ok-Section c =
    section_next c.args.len c.args.id c.args.window.now c.args.at c.args.until
    c.in-Some-Ok-Section.next (omega (arith, c.if-at-until.false, c.requires.order))
    (rw c.in-Some-Ok-Section.field-0-0-is at
    (rw c.in-Some-Ok-Section.field-0-is at c.in-Some-Ok-Section.ensures))
