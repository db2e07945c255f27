use Rattle.replay_merge.proofs.DoneSo.{batch_more}
use Rattle.replay_merge.proofs.piping.PipingWorkBatchPiped.take.Goals as goal

pub returns-in-Ok : goal.returns-in-Ok
returns-in-Ok g c = λ batches is.
    batch_more c.args.self.now.tables.now batches c.args.item c.args.state.now
    c.take_batch.new.state c.in-Ok.ensures is
