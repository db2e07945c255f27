use Rattle.std.proofs.Common.{Result, subst}
use Rattle.path_core.specs.declared.keeper.KeeperFault.{KeeperFault}
use Rattle.clog_base.proofs.Follows.{on_ok}
use Rattle.clog_closing.specs.Drained.{HasGoneOn, held_in}
use Rattle.clog_closing.proofs.Going.{gone_on}
use Rattle.clog_closing.proofs.GoodDrops.{drains as drains_by}
use Rattle.clog_closing.proofs.draining.drain.Goals as goal

pub returns-in-Ok-clause-drains : goal.returns-in-Ok-clause-drains
returns-in-Ok-clause-drains g c =
    let held = held_in g.D.Disk g.row.D.coded.code in
    on_ok c.drop_all.result _ _ c.drop_all.ensures.drops (λ drops.
    drains_by (held c.args.store.now) (held c.flush_each.new.store) (held c.drop_all.new.store)
    c.args.memtables.now drops.0 c.requires.may c.requires.holds_some c.requires.good
    c.in-Ok.ensures.flushes drops.1)

pub returns-in-Ok-clause-on : goal.returns-in-Ok-clause-on
returns-in-Ok-clause-on g c =
    gone_on g.D.Disk g.row.D.coded.code c.args.store.now c.flush_each.new.store
    c.drop_all.new.store c.args.memtables.now c.flush_each.result c.drop_all.result
    c.flush_each.ensures.on c.drop_all.ensures.on

pub returns-in-Err-clause-on : goal.returns-in-Err-clause-on
returns-in-Err-clause-on g c =
    subst (λ (r : Result (Unit {0}) KeeperFault). HasGoneOn g.D.Disk g.row.D.coded.code
    c.args.store.now c.flush_each.new.store c.args.memtables.now r) c.in-Err.is
    c.flush_each.ensures.on
