use Rattle.std.proofs.Common.{◌≡◌, ◌-◌, ◌≤◌, List, length}
use Rattle.std.specs.List.{AllByRecursion}
use Rattle.clog_spec.specs.Sizes.{most_updates}
use Rattle.clog_mutation.specs.Limits.{UpdateIsWithinLimits}
use Rattle.clog_text.specs.UsualLines.{Spelled, updates_tokens, AllSay}
use Rattle.clog_text.proofs.usual.updates.Given as goal

-- what was taken are the first updates, each as it was spelled
abbrev pub invariant-updates : goal.invariant-updates
invariant-updates l = record {
  taken : (us : List Spelled) × (l.fn.reader ≡ updates_tokens us l.reader)
      × AllSay us l.updates.items;
  within : AllByRecursion UpdateIsWithinLimits l.updates.items;
  few : length l.updates.items ≤ most_updates;
}

abbrev pub decreases-updates : goal.decreases-updates
decreases-updates l = most_updates - length l.updates.items
