use Rattle.std.proofs.Common.{◌∙◌}
use Rattle.path_flush.proofs.FilingGathers.{all_gathered}
use Rattle.path_flush.proofs.flush_gathering.gather_apart.Goals as goal

pub returns-clause-same : goal.returns-clause-same
returns-clause-same g c = c.gather_boxes-member.ensures.same.0

pub returns-clause-holds : goal.returns-clause-holds
returns-clause-holds g c = let G = c.gather_boxes-member.ensures in let H = c.requires.holds in
    record {
      holder = G.steps.holder H.holder;
      unsynced = G.steps.sync ∙ H.unsynced;
      bare = G.same.1 ∙ H.bare;
    }

pub returns-clause-gathered : goal.returns-clause-gathered
returns-clause-gathered g c = let G = c.gather_boxes-member in
    let seats = c.args.path.now.size.seats in
    all_gathered seats c.args.table c.args.memtable _ G.result.1 G.result.0.seat.me.0.hands
    c.gathered_of.result G.ensures.all c.gathered_of.ensures
