use Rattle.std.proofs.Common.{[], Err, false}
use Rattle.replay_merge.specs.Entries.{all_items}
use Rattle.replay_merge.proofs.LogRead.{is_logged}
use Rattle.replay_merge.proofs.Settled.{settles}
use Rattle.replay_merge.proofs.Tops.{top_of_none}
use Rattle.replay_merge.proofs.reading.read_log.Goals as goal

pub returns-in-Ok-clause-reads : goal.returns-in-Ok-clause-reads
returns-in-Ok-clause-reads g c =
    let e = c.stream_places-streamed.ensures.gives in
    let to = c.stream_places-streamed.new.to in
    is_logged (g.D.Disk.files c.args.disk.now) (g.D.Disk.faults c.args.disk.now)
    (g.D.Disk.faults c.stream_places-streamed.new.disk) c.args.names.entries (all_items e.0) c.args.tables.now
    c.stream_places-streamed.result to.piped c.in-Ok.piped to.top e.3
    (e.2.1.done [] (c.new.ensures c.args.tables.now)) c.in-Ok.ensures.settles
    (e.2.1.reaches [] top_of_none)

pub returns-in-Err-clause-reads : goal.returns-in-Err-clause-reads
returns-in-Err-clause-reads g c =
    let e = c.stream_places-streamed.ensures.gives in
    settles false (g.D.Disk.files c.args.disk.now) (g.D.Disk.faults c.args.disk.now)
    (g.D.Disk.faults c.stream_places-streamed.new.disk) c.args.names.entries (all_items e.0) c.args.tables.now
    c.requires.there c.stream_places-streamed.result c.stream_places-streamed.new.to.piped
    (Err c.in-Err.fault) e.3 (e.2.1.done [] (c.new.ensures c.args.tables.now))
    c.in-Err.ensures.settles
