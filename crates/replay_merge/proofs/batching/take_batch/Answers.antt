use Rattle.replay_merge.specs.Entries.{items_of}
use Rattle.replay_merge.proofs.Rounds.{all_taken}
use Rattle.replay_merge.proofs.batching.take_batch.Goals as goal

pub returns : goal.returns
returns g c =
    all_taken c.args.piping.now.tables.now (items_of c.args.batch.now) c.args.state.now
    c.take_thirds.new.state c.take_thirds-2.new.state c.take_thirds-3.new.state
    c.in_ok-take_thirds.ensures c.in_ok-take_thirds-2.ensures c.in_ok-take_thirds-3.ensures
