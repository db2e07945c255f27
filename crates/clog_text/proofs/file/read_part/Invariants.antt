use Rattle.std.proofs.Common.{◌≡◌, ◌+◌}
use Rattle.std.specs.List.{AllByRecursion}
use Rattle.clog_text.specs.FileMutations.{part_from}
use Rattle.clog_mutation.specs.Limits.{IsWithinLimits}
use Rattle.clog_text.proofs.FileReading.{with_read, left_from}
use Rattle.clog_text.proofs.file.read_part.Given as goal

-- what was read and what is left are the part's
abbrev pub invariant-loop-range : goal.invariant-loop-range
invariant-loop-range l = record {
  read : with_read l.mutations.items (left_from l.bytes l.before l.ranges l.range-index) ≡
      part_from l.bytes l.before l.ranges;
  within : AllByRecursion IsWithinLimits l.mutations.items;
  number : l.number ≡ l.before + l.range-index;
}
