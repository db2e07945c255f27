use Rattle.std.proofs.Common.{◌≡◌, ◌++◌, reverse}
use Rattle.path_table.specs.Members.{view_of, part_of, boxes_of, IsOf}
use Rattle.write_path.specs.Closed.{AreOf, returned_by}
use Rattle.write_path.proofs.closing.join_all.Given as goal

abbrev pub invariant-loop-member : goal.invariant-loop-member
invariant-loop-member g l = record {
  table : IsOf l.table.table.shared.table_id l.table.size l.first;
  seats : AreOf l.table.table.shared.table_id l.table.size l.seats.items;
  number : l.first.number ≡ l.initial.first.number;
  trail : (view_of l.first).trail ≡ (view_of l.initial.first).trail;
  part : part_of l.first ≡ part_of l.initial.first;
  boxes : boxes_of l.first ≡ boxes_of l.initial.first;
  returned : (view_of l.first).returned ++ returned_by (reverse l.seats.items)
      ≡ (view_of l.initial.first).returned ++ returned_by (reverse l.initial.seats.items);
}

abbrev pub decreases-loop-member : goal.decreases-loop-member
decreases-loop-member g l = goal.left-loop-member g l
