use Rattle.std.proofs.Common.{◌≡◌, ◌++◌}
use Rattle.clog_cells.proofs.cell_map.rows_of.Given as goal

-- what is left completes the rows
abbrev pub invariant-loop-key : goal.invariant-loop-key
invariant-loop-key l = l.rows.items ++ l.key-iterator ≡ l.cells.entries
