use Rattle.std.proofs.Common.{List, map, subst}
use Rattle.std.proofs.lemmas.List.{take_all}
use Rattle.clog_mutation.specs.declared.lent.LentUpdate.{LentUpdate}
use Rattle.clog_mutation.specs.Lent.{update_lent}
use Rattle.replay_merge.specs.Merged.{Takes, keyed}
use Rattle.replay_merge.proofs.Taken.{lent_more, takes_none}
use Rattle.replay_merge.proofs.taking.take_updates.Goals as goal

pub loop-update-init : goal.loop-update-init
loop-update-init c = takes_none c.args.tables.now c.args.merged.now

pub loop-update-preserved : goal.loop-update-preserved
loop-update-preserved c =
    let l = c.loop-update in
    lent_more c.args.tables.now c.args.at c.args.key.now c.args.updates.now l.update-index _
    c.args.merged.now l.merged c.take_update.new.merged c.loop-update-test.true l.invariant
    c.in_ok-take_update.ensures

pub returns : goal.returns
returns c =
    let l = c.loop-update in
    subst (λ (us : List LentUpdate). Takes c.args.tables.now
    (map (keyed c.args.at c.args.key.now) (map update_lent us)) c.args.merged.now l.merged)
    (take_all l.update-index c.args.updates.now c.loop-update-test.false) l.invariant
