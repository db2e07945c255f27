use Rattle.std.proofs.Common.{◌≡◌, false, take}
use Rattle.clog_memtable.specs.Flushing.{HasPutFiles, files_of}
use Rattle.clog_closing.specs.Drained.{StaysAlive, held_in}
use Rattle.clog_closing.proofs.draining.flush_each.Given as goal

-- those that were seen are flushed, and the log lives on
abbrev pub invariant-loop-memtable : goal.invariant-loop-memtable
invariant-loop-memtable g l =
    let held = held_in g.D.Disk g.row.D.coded.code in
    record {
      put : HasPutFiles (held l.fn.store) (held l.store)
          (files_of (take l.memtable-index l.memtables));
      runs : l.store.notes.log.is_stopped ≡ false;
      first : l.store.first ≡ l.fn.store.first;
      lives : StaysAlive g.D.Disk l.fn.store.notes.log l.store.notes.log;
    }
