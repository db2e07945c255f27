use Rattle.clog_segments.proofs.Ids.{late}
use Rattle.clog_segments.proofs.naming.is_late_table.Goals as goal

pub returns-in-Some : goal.returns-in-Some
returns-in-Some c =
    late c.args.name.now c.in-Some.field-0-0.0 c.in-Some.sequence c.in-Some.ensures
