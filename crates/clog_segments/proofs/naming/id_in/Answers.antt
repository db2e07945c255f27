use Rattle.clog_segments.proofs.Ids.{archive_id, segment_id}
use Rattle.clog_segments.proofs.naming.id_in.Goals as goal

pub returns-in-Some : goal.returns-in-Some
returns-in-Some c =
    segment_id c.args.name.now c.in-Some.said.version c.in-Some.said.id c.in-Some.ensures

pub returns-in-None : goal.returns-in-None
returns-in-None c =
    archive_id c.args.name.now c.in-None.ensures c.parse_archive_name.result
    c.parse_archive_name.ensures
