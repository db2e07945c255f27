use Rattle.path_table.specs.Members.{IsOf}
use Rattle.path_tests.proofs.above.await_barrier.Given as goal

-- the seat is the path's still
abbrev pub invariant-loop : goal.invariant-loop
invariant-loop g l = let t = l.path.table in record {
  next : (goal.iterator-loop g).can_next l.iterator';
  finite : (goal.iterator-loop g).is_finite l.iterator';
  of : IsOf t.table.shared.table_id t.size l.seat.member;
}
