use Rattle.std.proofs.Common.{◌≡◌, ◌-◌, ◌≤◌, List}
use Rattle.clog_folder.specs.Passing.{IsUntouched}
use Rattle.replay_merge.specs.declared.piped.Batch.{Batch}
use Rattle.replay_merge.specs.Entries.{all_items}
use Rattle.replay_merge.specs.Streaming.{HasStreamed}
use Rattle.replay_merge.proofs.streaming.stream_file.Given as goal

-- what is left to read
abbrev pub decreases-loop-fed : goal.decreases-loop-fed
decreases-loop-fed g l = l.len - l.fed

-- The disk is as it was, and what was read of the file was scanned and put.
abbrev pub invariant-loop-fed : goal.invariant-loop-fed
invariant-loop-fed g l = record {
  keeps : IsUntouched g.D.Disk.files g.D.Disk.changes g.D.Disk.leaves g.D.Disk.moment
      g.D.Disk.since g.D.Disk.read_at g.D.Disk.lasted_at g.D.Disk.faults l.fn.disk l.disk;
  quiet : g.D.Disk.faults l.disk ≡ g.D.Disk.faults l.fn.disk;
  fed : l.fed ≡ l.scanner.fed;
  id : l.scanner.id ≡ l.id;
  len : l.scanner.len ≡ l.len;
  most : l.fed ≤ l.len;
  can_put : g.P.Sink.can_put l.to;
  given : (batches : List Batch) × g.P.Sink.goes_on l.fn.to batches l.to
      × HasStreamed (g.D.Disk.files l.fn.disk) l.name l.len l.scanner (all_items batches);
}
