use Rattle.clog_table.specs.Format.{behind_head}
use Rattle.clog_table.specs.LastCell.{last_of, HasReadCells}
use Rattle.clog_table.proofs.checking.rest_of.Given as goal

-- the cells so far, of which only the last is held
abbrev pub invariant-loop : goal.invariant-loop
invariant-loop l =
    HasReadCells l.fn.head.table l.fn.head.count (behind_head l.bytes) l.counter (last_of l.last)
    l.rest
