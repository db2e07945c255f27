use Rattle.std.proofs.Common.{◌≡◌, ◌≤◌, ◌-◌, false, length}
use Rattle.clog_store.specs.NoteSteps.{GoesOn, Leaves, StaysReady}
use Rattle.clog_store.proofs.note_writing.write_rest.Given as goal

-- further notes were written, in further segments only where there were some, and the disk has not
-- failed
abbrev pub invariant-loop-written : goal.invariant-loop-written
invariant-loop-written g l =
    let D = g.D.Disk in
    record {
      few : l.written ≤ length l.notes;
      runs : l.log.is_stopped ≡ false;
      ready : StaysReady l.base l.notes l.fn.log l.fn.written l.log l.written;
      goes : GoesOn D.files D.moment D.since D.leaves D.read_at D.lasted_at l.fn.log l.log;
      leaves : Leaves D.files D.changes l.fn.log l.log;
      faults : D.faults l.log.disk ≡ D.faults l.fn.log.disk;
      up : l.fn.written ≤ l.written;
      still : l.fn.written ≡ length l.notes → l.log.id ≡ l.fn.log.id;
    }

abbrev pub decreases-loop-written : goal.decreases-loop-written
decreases-loop-written g l = length l.notes - l.written
