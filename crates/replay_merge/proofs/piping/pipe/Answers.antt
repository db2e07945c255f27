use Rattle.replay_merge.proofs.DoneSo.{batches_in_any_order}
use Rattle.replay_merge.proofs.piping.pipe.Goals as goal

pub returns : goal.returns
returns g c =
    let e = c.run.ensures in
    (e.0, e.2, batches_in_any_order c.args.tables.now c.run.result.1 e.1 e.0 e.3 e.4)
