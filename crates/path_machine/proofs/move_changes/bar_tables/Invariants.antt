use Rattle.std.proofs.Common.{◌≡◌, take}
use Rattle.path_core.specs.Next.{barred_tables}
use Rattle.path_machine.proofs.move_changes.bar_tables.Given as goal

abbrev pub invariant-loop-i : goal.invariant-loop-i
invariant-loop-i l = l.tables ≡ barred_tables l.group (take l.i l.seat) l.fn.tables
