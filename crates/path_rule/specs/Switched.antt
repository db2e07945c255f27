-- What the holder of a table's Flush turn keeps at each step of a switch.
use Rattle.std.specs.Prelude.{ℕ}
use Rattle.path_core.specs.declared.seat.Seat.{Seat}
use Rattle.path_rule.specs.Switches.{FlushNewest, FlushOldest}

-- What the holder of a table's turn found of the newest memtable, and of the least that is not
-- retired, it knows still.
pub record KeepsMemtables (t : ℕ) (p after : Seat) : Type 0 where
  pub newest : (n : ℕ) → FlushNewest t p n → FlushNewest t after n
  pub oldest : (n : ℕ) → FlushOldest t p n → FlushOldest t after n
