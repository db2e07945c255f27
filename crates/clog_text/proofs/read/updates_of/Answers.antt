use Rattle.std.proofs.Common.{◌+◌, [], ◌∷◌, length, drop, ap, sym, subst, ◌∙◌}
use Rattle.serde_json.specs.View.{items_view}
use Rattle.std.specs.List.{AllByRecursion}
use Rattle.clog_mutation.specs.Limits.{UpdateIsWithinLimits}
use Rattle.clog_text.specs.LineMutation.{updates_of}
use Rattle.clog_text.proofs.UpdateLists.{with_front, with_none, one_more, all_read, first_refused}
use Rattle.clog_text.proofs.UpdateLists.{within_none, within_push}
use Rattle.std.proofs.lemmas.List.{length-append}
use Rattle.clog_text.proofs.read.updates_of.Goals as goal

pub loop-item-init : goal.loop-item-init
loop-item-init c = record {
  read = ap (λ l. with_front l (updates_of (items_view c.args.items.now)))
      c.new-updates.ensures.items
      ∙ with_none (updates_of (items_view c.args.items.now));
  within = within_none c.new-updates.result.items c.new-updates.ensures.items;
  count = ap length c.new-updates.ensures.items;
}

pub loop-item-preserved : goal.loop-item-preserved
loop-item-preserved c = record {
  read =
      ap (λ l. with_front l
      (updates_of (items_view (drop (c.loop-item.item-index + 1) c.args.items.now))))
      c.in_ok-push-in-Ok.ensures.items
      ∙ one_more c.args.items.now c.loop-item.item-index c.item-item.result
      c.loop-item.updates.items c.in-Ok.update c.loop-item-test.true c.item-item.is
      c.in-Ok.ensures.update
      ∙ c.loop-item.invariant.read;
  within = subst (λ l. AllByRecursion UpdateIsWithinLimits l) (sym c.in_ok-push-in-Ok.ensures.items)
      (within_push c.loop-item.updates.items c.in-Ok.update c.loop-item.invariant.within
      c.in-Ok.ensures.within);
  count =
      ap length c.in_ok-push-in-Ok.ensures.items
      ∙ length-append c.loop-item.updates.items (c.in-Ok.update ∷ [])
      ∙ ap (λ n. n + 1) c.loop-item.invariant.count;
}

pub returns-in-Err-clause-updates : goal.returns-in-Err-clause-updates
returns-in-Err-clause-updates c =
    first_refused c.args.items.now c.loop-item.item-index c.item-item.result
    c.loop-item.updates.items c.in-Err.e c.loop-item-test.true c.item-item.is
    c.in-Err.ensures.update c.loop-item.invariant.read

pub returns-clause-updates : goal.returns-clause-updates
returns-clause-updates c =
    sym c.loop-item.invariant.read
    ∙ all_read c.args.items.now c.loop-item.item-index c.loop-item.updates.items
    c.loop-item-test.false
