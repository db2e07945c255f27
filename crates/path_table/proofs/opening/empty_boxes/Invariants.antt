use Rattle.std.proofs.Common.{◌≡◌, length}
use Rattle.path_rule.specs.FirstBoxes.{AreEmpty}
use Rattle.path_table.proofs.opening.empty_boxes.Given as goal

abbrev pub invariant-loop : goal.invariant-loop
invariant-loop g l = record {
  many : length l.boxes.items ≡ l.counter;
  empty : AreEmpty l.boxes.items;
}
