use Rattle.std.proofs.Common.{◌≡◌, take}
use Rattle.path_core.specs.Next.{places_from}
use Rattle.path_machine.proofs.close_changes.places_of.Given as goal

abbrev pub invariant-loop-i : goal.invariant-loop-i
invariant-loop-i l = l.places.items ≡ places_from 0 l.entry (take l.i l.tables)
