use Rattle.std.proofs.Common.{◌≢◌, ℕ, ◌<◌, get_or}
use Rattle.clog_base.specs.declared.cell.Table.{Table}
use Rattle.path_machine.proofs.seat_asks.is_carried.Given as goal

abbrev pub invariant-loop-found : goal.invariant-loop-found
invariant-loop-found l = (k : ℕ) (d : Table × ℕ) → k < l.found-index
    → get_or l.places k d ≢ (record { 0 = l.table }, l.memtable)
