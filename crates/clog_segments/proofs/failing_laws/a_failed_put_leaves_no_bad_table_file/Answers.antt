use Rattle.clog_segments.proofs.GoodTables.{good_tables}
use Rattle.clog_segments.proofs.failing_laws.a_failed_put_leaves_no_bad_table_file.Goals as goal

pub returns : goal.returns
returns c first now log deeds low fits good left =
    good_tables first log deeds low fits good now left
