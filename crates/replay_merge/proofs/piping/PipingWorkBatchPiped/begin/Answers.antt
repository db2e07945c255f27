use Rattle.replay_merge.proofs.piping.PipingWorkBatchPiped.begin.Goals as goal

pub returns : goal.returns
returns g c = c.new.ensures c.args.self.now.tables.now
