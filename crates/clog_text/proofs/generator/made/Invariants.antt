use Rattle.std.proofs.Common.{◌≡◌}
use Rattle.clog_text.specs.Made.{made_lines, number_of}
use Rattle.clog_text.proofs.generator.made.Given as goal

-- the lines so far, and the number of the last of them
abbrev pub invariant-loop-index : goal.invariant-loop-index
invariant-loop-index l = record {
  lines : l.lines.items ≡ made_lines l.seed l._index;
  number : l.number ≡ number_of l.seed l._index;
}
