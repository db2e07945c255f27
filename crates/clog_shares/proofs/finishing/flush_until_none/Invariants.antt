use Rattle.std.proofs.Common.{◌≡◌, ◌+◌, ◌*◌, ◌≤◌}
use Rattle.clog_spec.specs.Sizes.{most_tables}
use Rattle.path_rule.specs.Issued.{issued_in}
use Rattle.path_table.specs.Members.{view_of}
use Rattle.write_path.specs.Commits.{KeepsList}
use Rattle.clog_shares.specs.Tallies.{Tallies, due_below}
use Rattle.clog_shares.proofs.finishing.flush_until_none.Given as goal

abbrev pub invariant-loop : goal.invariant-loop
invariant-loop g l = let first = l.fn.seat.member in let t = l.path.table in record {
  next : (goal.iterator-loop g).can_next l.iterator';
  finite : (goal.iterator-loop g).is_finite l.iterator';
  keeps : KeepsList t.table.shared.table_id t.size first l.seat.member;
  most : l.tally.most ≡ l.fn.tally.most;
  tallies : Tallies first.number l.fn.tally (view_of first).trail
      → Tallies first.number l.tally (view_of l.seat.member).trail;
  spends : issued_in (view_of l.seat.member).trail + 4 * due_below most_tables l.tally
      ≤ issued_in (view_of first).trail + 4 * due_below most_tables l.fn.tally;
}
