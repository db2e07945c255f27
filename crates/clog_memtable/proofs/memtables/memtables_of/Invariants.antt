use Rattle.clog_memtable.specs.Touched.{AreMemtablesOf, key_for}
use Rattle.clog_memtable.proofs.memtables.memtables_of.Given as goal

-- those of the tables that were seen
abbrev pub invariant-loop-table : goal.invariant-loop-table
invariant-loop-table l =
    AreMemtablesOf l.notes (key_for l.lowers) l.upper.0 l.table l.memtables.items
