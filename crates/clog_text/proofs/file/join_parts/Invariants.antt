use Rattle.std.proofs.Common.{◌≡◌, ◌++◌, length, Ok}
use Rattle.std.specs.List.{AllByRecursion}
use Rattle.clog_mutation.specs.Limits.{IsWithinLimits}
use Rattle.clog_text.specs.FileMutations.{joined, part_from}
use Rattle.clog_text.proofs.FileParts.{from_part}
use Rattle.clog_text.proofs.file.join_parts.Given as goal

-- what was taken and what the parts left give are what all parts give
abbrev pub invariant-loop-part : goal.invariant-loop-part
invariant-loop-part l = record {
  read : joined (Ok l.mutations.items)
      (from_part l.fn.bytes l.fn.ranges l.fn.size (length l.yielded)) ≡
      part_from l.fn.bytes 0 l.fn.ranges;
  within : AllByRecursion IsWithinLimits l.mutations.items;
  parts : l.fn.parts.items ≡ l.yielded ++ l.part-iterator.rest.items;
  count : l.part-iterator.rest.len ≡ length l.part-iterator.rest.items;
}
