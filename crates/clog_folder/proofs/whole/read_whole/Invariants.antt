use Rattle.std.proofs.Common.{◌≡◌, ◌-◌, length}
use Rattle.clog_folder.specs.Passing.{IsUntouched}
use Rattle.clog_folder.specs.Whole.{HasFirstPart}
use Rattle.clog_folder.proofs.whole.read_whole.Given as goal

-- what is left to read
abbrev pub decreases-loop-disk : goal.decreases-loop-disk
decreases-loop-disk g l = l.len - length l.bytes.items

-- The disk is as it was, has counted no fault, and these are the first bytes of the file.
abbrev pub invariant-loop-disk : goal.invariant-loop-disk
invariant-loop-disk g l = record {
  keeps : IsUntouched g.D.Disk.files g.D.Disk.changes g.D.Disk.leaves g.D.Disk.moment
      g.D.Disk.since g.D.Disk.read_at g.D.Disk.lasted_at g.D.Disk.faults l.fn.disk l.disk;
  quiet : g.D.Disk.faults l.disk ≡ g.D.Disk.faults l.fn.disk;
  front : HasFirstPart (g.D.Disk.files l.fn.disk) l.name l.len l.bytes.items;
}
