use Rattle.std.proofs.Common.{◌≡◌, length}
use Rattle.clog_table.specs.Format.{behind_head}
use Rattle.clog_table.specs.Cells.{HasCells}
use Rattle.clog_table.proofs.decoding.cells_of.Given as goal

-- the cells read so far are the front of the file's
abbrev pub invariant-loop : goal.invariant-loop
invariant-loop l = record {
  front : HasCells l.head.table l.head.count (behind_head l.bytes) l.cells l.rest;
  count : length l.cells ≡ l.counter;
}
