use Rattle.std.proofs.Common.{◌≡◌}
use Rattle.write_path.specs.Commits.{KeepsMemtables}
use Rattle.write_path.proofs.seats.WritePath.claim.Given as goal

abbrev pub invariant-loop : goal.invariant-loop
invariant-loop g l = record {
  next : (goal.iterator-loop g).can_next l.iterator';
  finite : (goal.iterator-loop g).is_finite l.iterator';
  keeps : KeepsMemtables l.self.table.table.shared.table_id l.self.table.size l.initial.seat.member
      l.seat.member;
  writing : l.seat.writing ≡ l.initial.seat.writing;
  group : l.seat.group ≡ l.initial.seat.group;
}
