use Rattle.std.proofs.Common.{◌≡◌, ℕ, ◌<◌, ◌&&◌, false, is_some}
use Rattle.std.specs.List.{list_any}
use Rattle.path_core.specs.Parts.{seat_table, table_of}
use Rattle.path_core.specs.Allowed.{is_unbarred}
use Rattle.path_machine.proofs.order_allowed.has_unbarred.Given as goal

abbrev pub invariant-loop-i : goal.invariant-loop-i
invariant-loop-i l = (k : ℕ) → k < l.i
    → (is_some (seat_table l.seat k).flush && list_any is_unbarred (table_of l.state k).memtables)
    ≡ false
