use Rattle.std.proofs.Common.{List, [], ◌∷◌, map, subst}
use Rattle.clog_mutation.specs.declared.lent.LentUpdate.{LentUpdate}
use Rattle.clog_mutation.specs.Lent.{update_lent}
use Rattle.replay_merge.specs.Merged.{Takes, keyed}
use Rattle.replay_merge.proofs.Taken.{takes_both, takes_one}
use Rattle.replay_merge.proofs.taking.take_mutation.Goals as goal

pub returns : goal.returns
returns c =
    let tables = c.args.tables.now in
    let m = c.args.mutation.now in
    let one = keyed c.args.at m.key.now (update_lent m.first) in
    takes_both tables (one ∷ [])
    (map (keyed c.args.at m.key.now) (map update_lent m.more.items)) c.args.merged.now
    c.take_update.new.merged c.take_updates.new.merged
    (takes_one tables one c.args.merged.now c.take_update.new.merged c.in_ok-take_update.ensures)
    (subst (λ (us : List LentUpdate). Takes tables
    (map (keyed c.args.at m.key.now) (map update_lent us)) c.take_update.new.merged
    c.take_updates.new.merged)
    c.as_slice.ensures.value c.in_ok-take_updates.ensures)
