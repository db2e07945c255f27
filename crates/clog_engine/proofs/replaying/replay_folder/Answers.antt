use Rattle.clog_engine.proofs.Quiet.{told_folder}
use Rattle.clog_engine.proofs.Replays.{replay_refused}
use Rattle.clog_engine.proofs.replaying.replay_folder.Goals as goal

pub returns-in-Err-clause-replays : goal.returns-in-Err-clause-replays
returns-in-Err-clause-replays g c =
    replay_refused c.args.options.ignore_errors (g.D.Disk.files c.args.disk.now)
    (g.D.Disk.faults c.args.disk.now) (g.D.Disk.faults c.replay.new.disk) c.in-Err.refusal
    c.folder_status.result c.folder_status.ensures c.in-Err.ensures.replays

pub returns-in-Err-clause-quiet : goal.returns-in-Err-clause-quiet
returns-in-Err-clause-quiet g c =
    told_folder c.in-Err.refusal c.folder_status.result (g.D.Disk.faults c.args.disk.now)
    (g.D.Disk.faults c.replay.new.disk) c.folder_status.ensures c.in-Err.ensures.quiet

pub returns-clause-replays : goal.returns-clause-replays
returns-clause-replays g c = record {
  restored = c.in-Ok.restored;
  replayed = c.in-Ok.ensures.replays;
  text = c.in_ok-report_of.ensures;
}
