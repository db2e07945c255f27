use Rattle.std.proofs.Common.{◌≡◌, ◌+◌, ◌*◌, ◌<◌, ◌≤◌, ℕ, length}
use Rattle.clog_spec.specs.Sizes.{most_tables}
use Rattle.path_rule.specs.Issued.{issued_in}
use Rattle.path_table.specs.Members.{view_of}
use Rattle.write_path.specs.Commits.{KeepsList}
use Rattle.clog_shares.specs.Tallies.{IsNotDue, IsTried, Tallies, due_below}
use Rattle.clog_shares.proofs.flushing.flush_tables.Given as goal

-- The seat has logged nothing, and its tally tells what it has left; the tables that it has passed
-- were tried. It has issued at most four barriers for each of these, and none for one that is due
-- still.
abbrev pub invariant-loop-number : goal.invariant-loop-number
invariant-loop-number g l = let first = l.fn.seat.member in let t = l.path.table in record {
  keeps : KeepsList t.table.shared.table_id t.size first l.seat.member;
  most : l.tally.most ≡ l.fn.tally.most;
  tallies : Tallies first.number l.fn.tally (view_of first).trail
      → Tallies first.number l.tally (view_of l.seat.member).trail;
  idle : ((t : ℕ) → t < most_tables → IsNotDue l.fn.tally t)
      → (l.seat ≡ l.fn.seat) × (l.tally ≡ l.fn.tally);
  tried : 1 ≤ l.fn.tally.most → (t : ℕ) → t < l.number
      → IsTried (length (view_of first).trail) l.tally (view_of l.seat.member).trail t;
  issued : issued_in (view_of l.seat.member).trail ≤ 4 * l.number + issued_in (view_of first).trail;
  spends : 1 ≤ l.fn.tally.most
      → issued_in (view_of l.seat.member).trail + 4 * due_below most_tables l.tally
      ≤ issued_in (view_of first).trail + 4 * due_below most_tables l.fn.tally;
}
