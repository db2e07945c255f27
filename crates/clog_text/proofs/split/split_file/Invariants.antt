use Rattle.std.proofs.Common.{◌≡◌, ◌++◌, ◌-◌, ◌≤◌, length, map, drop}
use Rattle.std.specs.List.{AllByRecursion}
use Rattle.clog_text.specs.FileLines.{lines_of, line_limit, piece_of, ranges_from}
use Rattle.clog_text.specs.FileLines.{IsRangeWithin}
use Rattle.clog_text.proofs.split.split_file.Given as goal

-- the lines that were found and those that are left are the file's
abbrev pub invariant-loop-start : goal.invariant-loop-start
invariant-loop-start l = record {
  placed : l.ranges.items ++ ranges_from l.start (lines_of (drop l.start l.bytes)) ≡ ranges_from 0
      (lines_of l.bytes);
  lines : map (piece_of l.bytes) l.ranges.items ++ lines_of (drop l.start l.bytes) ≡ lines_of
      l.bytes;
  within : AllByRecursion (IsRangeWithin (length l.bytes)) l.ranges.items;
  few : length l.ranges.items ≤ line_limit;
}

abbrev pub decreases-loop-start : goal.decreases-loop-start
decreases-loop-start l = length l.bytes - l.start
