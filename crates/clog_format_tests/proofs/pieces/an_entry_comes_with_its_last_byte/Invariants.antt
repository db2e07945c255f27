use Rattle.std.proofs.Common.{◌≡◌}
use Rattle.clog_format_tests.proofs.pieces.an_entry_comes_with_its_last_byte.Given as goal

-- a byte was fed in each turn
abbrev pub invariant-loop-at : goal.invariant-loop-at
invariant-loop-at g l = record {
  fed : l.scanner.fed ≡ l.at-counter;
  len : l.scanner.len ≡ 60;
}
