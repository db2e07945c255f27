use Rattle.std.proofs.Common.{sym, take}
use Rattle.clog_due.proofs.TableLogs.{own_hulls, placed_first}
use Rattle.clog_due.proofs.table_log.growing.add_entries.Goals as goal

pub add_entry-requires-clause-placed : goal.add_entry-requires-clause-placed
add_entry-requires-clause-placed c =
    c.requires.placed c.index-notes-index.result
    (c.loop-index.index, c.loop-index-test.true, sym c.index-notes-index.is)

pub add_entry-requires-clause-own : goal.add_entry-requires-clause-own
add_entry-requires-clause-own c =
    let i = c.loop-index.index in
    own_hulls c.args.table.0 (take i c.args.notes.now) c.loop-index.hulls
    (placed_first i c.args.notes.now c.requires.placed) c.loop-index.invariant
