use Rattle.std.proofs.Common.{◌+◌, ◌∙◌, List, get_or, length-set, subst, sym, take_all, arith}
use Rattle.clog_base.proofs.Members.{all_have}
use Rattle.clog_mutation.specs.declared.mutation.Update.{Update}
use Rattle.clog_mutation.specs.Limits.{UpdateIsWithinLimits}
use Rattle.clog_shares.specs.Tallied.{HasCounts}
use Rattle.clog_shares.proofs.UpdateCounts.{few, one_more}
use Rattle.clog_shares.proofs.tally.count_updates.Goals as goal

pub overflow_add-of_tables : goal.overflow_add-of_tables
overflow_add-of_tables c =
    let l = c.loop-update in let u = c.update-item.result in let us = c.args.updates.now in
    let limits = all_have UpdateIsWithinLimits us u c.requires.within
    (l.update-index, c.loop-update-test.true, sym c.update-item.is) in
    let low = limits.table in
    let is = c.from.ensures in
    let most = c.requires.few in
    let inside = c.loop-update-test.true in
    let count = few us l.update-index u inside c.update-item.is l.of_tables c.from.result is
    (omega (arith, low, is)) l.invariant.has in
    omega (arith, count, most, inside)

pub loop-update-preserved : goal.loop-update-preserved
loop-update-preserved c =
    let l = c.loop-update in let u = c.update-item.result in let us = c.args.updates.now in
    let limits = all_have UpdateIsWithinLimits us u c.requires.within
    (l.update-index, c.loop-update-test.true, sym c.update-item.is) in
    let low = limits.table in
    let is = c.from.ensures in record {
      all = length-set l.of_tables c.from.result (get_or l.of_tables c.from.result 0 + 1)
          ∙ l.invariant.all;
      has = one_more us l.update-index u c.loop-update-test.true c.update-item.is l.of_tables
          c.from.result is (omega (arith, low, is)) l.invariant.has l.invariant.all;
    }

pub returns : goal.returns
returns c = subst (λ (us : List Update). HasCounts us c.loop-update.of_tables)
    (take_all c.loop-update.update-index c.args.updates.now c.loop-update-test.false)
    c.loop-update.invariant.has
