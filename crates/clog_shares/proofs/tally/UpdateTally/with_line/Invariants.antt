use Rattle.std.proofs.Common.{◌≡◌, ◌+◌, ◌<◌, ◌≤◌, ℕ, length, min, slice_index}
use Rattle.clog_spec.specs.Sizes.{most_tables}
use Rattle.clog_shares.proofs.tally.UpdateTally.with_line.Given as goal

-- of the tables below this one the line's are added, of the others not yet
abbrev pub invariant-loop-table : goal.invariant-loop-table
invariant-loop-table l = record {
  all : length l.counts ≡ most_tables;
  low : (t : ℕ) → t < l.table → slice_index l.counts t
      ≡ min l.self.most (slice_index l.self.counts t + slice_index l.line.of_tables t);
  high : (t : ℕ) → l.table ≤ t → slice_index l.counts t ≡ slice_index l.self.counts t;
}
