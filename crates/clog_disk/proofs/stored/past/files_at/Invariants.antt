use Rattle.std.proofs.Common.{◌≡◌, ◌≤◌, length, drop}
use Rattle.clog_disk.specs.InMemory.{state_of, back}
use Rattle.clog_disk.proofs.stored.past.files_at.Given as goal

-- the calls that are still to be undone
abbrev pub decreases-loop-n : goal.decreases-loop-n
decreases-loop-n l = l.n

-- the calls from the n-th on are undone
abbrev pub invariant-loop-n : goal.invariant-loop-n
invariant-loop-n l = record {
  from : l.moment ≤ l.n;
  within : l.n ≤ length l.undos;
  undone : state_of l.past.entries ≡ back (drop l.n l.undos) (state_of l.fn.files.entries);
}
