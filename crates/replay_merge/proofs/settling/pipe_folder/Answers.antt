use Rattle.replay_merge.proofs.Settled.{settles}
use Rattle.replay_merge.proofs.settling.pipe_folder.Goals as goal

pub returns-clause-pipes : goal.returns-clause-pipes
returns-clause-pipes g c =
    let e = c.pipe_places-streamed.ensures.pipes in
    settles c.args.ignore (g.D.Disk.files c.args.disk.now)
    (g.D.Disk.faults c.args.disk.now) (g.D.Disk.faults c.pipe_places-streamed.new.disk)
    c.args.names.entries e.0 c.args.tables.now c.requires.there c.pipe_places-streamed.result.0
    c.pipe_places-streamed.result.1 _ e.1 e.2 c.settle.ensures.settles
