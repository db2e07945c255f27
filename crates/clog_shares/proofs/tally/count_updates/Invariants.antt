use Rattle.std.proofs.Common.{◌≡◌, length, take}
use Rattle.clog_spec.specs.Sizes.{most_tables}
use Rattle.clog_shares.specs.Tallied.{HasCounts}
use Rattle.clog_shares.proofs.tally.count_updates.Given as goal

-- the updates that are passed are counted
abbrev pub invariant-loop-update : goal.invariant-loop-update
invariant-loop-update l = record {
  all : length l.of_tables ≡ most_tables;
  has : HasCounts (take l.update-index l.updates) l.of_tables;
}
