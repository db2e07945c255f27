use Rattle.std.proofs.Common.{◌≡◌, IfSome, Option, drop, take}
use Rattle.clog_disk.specs.Files.{Files, SameTold}
use Rattle.clog_disk.specs.Images.{IsLater, LeavesOnly}
use Rattle.clog_crash.specs.Flush.{IsSameFolder}
use Rattle.clog_segments.specs.Beside.{StayButSegments}
use Rattle.clog_segments.specs.Coming.{IsRecovering, Recovers, AreGone, AreThere, HaveRemoved}
use Rattle.clog_segments.specs.Filing.{LeavesFrom, StaysFrom}
use Rattle.clog_segments.proofs.recovering.take_all_recovered.Given as goal

-- the segments that were yielded are gone, and the others may go
abbrev pub invariant-loop-segment : goal.invariant-loop-segment
invariant-loop-segment g l = record {
  told : SameTold (g.D.Disk.files l.fn.disk) (g.D.Disk.files l.disk);
  later : IsLater g.D.Disk.moment g.D.Disk.read_at g.D.Disk.lasted_at l.fn.disk l.disk;
  faults : g.D.Disk.faults l.disk ≡ g.D.Disk.faults l.fn.disk;
  others : StayButSegments l.segments (g.D.Disk.files l.fn.disk) (g.D.Disk.files l.disk);
  there : IfSome (g.D.Disk.files l.disk) (λ f. AreThere f (drop l.segment-index l.segments));
  removed : HaveRemoved (take l.segment-index l.segments) (g.D.Disk.changes l.fn.disk)
      (g.D.Disk.changes l.disk);
  files : (first : Files) → Recovers first (g.D.Disk.files l.fn.disk) l.segments
      → Recovers first (g.D.Disk.files l.disk) (drop l.segment-index l.segments);
  may : (first : Files)
      → IsRecovering first (g.D.Disk.files l.fn.disk) (g.D.Disk.leaves l.fn.disk) l.segments
      → IsRecovering first (g.D.Disk.files l.disk) (g.D.Disk.leaves l.disk)
      (drop l.segment-index l.segments);
  gone : (now : Option Files)
      → AreGone (g.D.Disk.files l.disk) now (drop l.segment-index l.segments)
      → AreGone (g.D.Disk.files l.fn.disk) now l.segments;
  only : (first : Files)
      → IsRecovering first (g.D.Disk.files l.fn.disk) (g.D.Disk.leaves l.fn.disk) l.segments
      → LeavesOnly g.D.Disk.moment g.D.Disk.since l.fn.disk l.disk (IsSameFolder first);
  from : (first : Files) → LeavesFrom first (g.D.Disk.leaves l.fn.disk)
      → StaysFrom g.D.Disk.moment g.D.Disk.since g.D.Disk.leaves first l.fn.disk l.disk;
}
