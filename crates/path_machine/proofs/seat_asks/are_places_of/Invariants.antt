use Rattle.std.proofs.Common.{◌≡◌, ℕ, ◌<◌, Some}
use Rattle.std.specs.Prelude.{IsTrue}
use Rattle.std.specs.List.{Contains}
use Rattle.path_core.specs.Parts.{touches, seat_table}
use Rattle.path_machine.proofs.seat_asks.are_places_of.Given as goal

abbrev pub invariant-loop-table : goal.invariant-loop-table
invariant-loop-table l = (t : ℕ) → t < l.table → IsTrue (touches l.tables t)
    → (m : ℕ) × ((seat_table l.seat t).place ≡ Some m) × Contains l.places (record { 0 = t }, m)
