use Rattle.std.proofs.Common.{◌≡◌}
use Rattle.write_path.proofs.NoteCopies.{copies_below}
use Rattle.write_path.proofs.copies.copies_of.Given as goal

-- those for the tables that were seen
abbrev pub invariant-loop-table : goal.invariant-loop-table
invariant-loop-table l = l.copies ≡ copies_below l.note l.table
