use Rattle.std.proofs.Common.{◌≡◌, drop, length}
use Rattle.std.specs.List.{AllByRecursion}
use Rattle.serde_json.specs.View.{items_view}
use Rattle.clog_mutation.specs.Limits.{UpdateIsWithinLimits}
use Rattle.clog_text.specs.LineMutation.{updates_of}
use Rattle.clog_text.proofs.UpdateLists.{with_front}
use Rattle.clog_text.proofs.read.updates_of.Given as goal

abbrev pub invariant-loop-item : goal.invariant-loop-item
invariant-loop-item l = record {
  read : with_front l.updates.items (updates_of (items_view (drop l.item-index l.items))) ≡
      updates_of (items_view l.items);
  within : AllByRecursion UpdateIsWithinLimits l.updates.items;
  count : length l.updates.items ≡ l.item-index;
}
