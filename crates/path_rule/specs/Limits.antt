-- How many memtables a path makes at most.
use Rattle.std.specs.Prelude.{ℕ, zero, suc, ◌+◌, ◌^◌, length}
use Rattle.path_core.specs.declared.state.PathState.{PathState}
use Rattle.path_core.specs.Parts.{table_of}

-- the memtables of the first tables, together
unfoldable pub made_below : ℕ → PathState → ℕ
made_below zero x = 0
made_below (suc n) x = made_below n x + length (table_of x n).memtables

-- of all 16 tables: one each, one for each barrier that a seat has issued, and one for each seat
abbrev pub most_memtables : ℕ
most_memtables = 2 ^ 46 + 2 ^ 10
