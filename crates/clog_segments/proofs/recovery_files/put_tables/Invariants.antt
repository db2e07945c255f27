use Rattle.std.proofs.Common.{◌≡◌}
use Rattle.clog_cells.specs.Parted.{part_from}
use Rattle.clog_disk.specs.Files.{Files, SameTold}
use Rattle.clog_disk.specs.Images.{IsLater, LeavesOnly}
use Rattle.clog_crash.specs.Flush.{IsSameFolder}
use Rattle.clog_segments.specs.Filing.{
  FiledNow,
  HasPutFrom,
  IsReady,
  LeavesFrom,
  SettledTo,
  StaysFrom,
}
use Rattle.clog_segments.proofs.recovery_files.put_tables.Given as goal

-- the tables seen have their files, and the cells of the others are left
abbrev pub invariant-loop-number : goal.invariant-loop-number
invariant-loop-number g l = record {
  left : l.rest ≡ part_from l.number l.fn.cells;
  told : SameTold (g.D.Disk.files l.fn.disk) (g.D.Disk.files l.disk);
  later : IsLater g.D.Disk.moment g.D.Disk.read_at g.D.Disk.lasted_at l.fn.disk l.disk;
  faults : g.D.Disk.faults l.disk ≡ g.D.Disk.faults l.fn.disk;
  puts : (first : Files) → IsReady first l.names l.fn.cells l.top
      → FiledNow first l.fn.cells 0 (g.D.Disk.files l.fn.disk)
      → HasPutFrom first l.fn.cells 0 l.number (g.D.Disk.changes l.fn.disk)
      (g.D.Disk.changes l.disk);
  files : (first : Files) → IsReady first l.names l.fn.cells l.top
      → FiledNow first l.fn.cells 0 (g.D.Disk.files l.fn.disk)
      → FiledNow first l.fn.cells l.number (g.D.Disk.files l.disk);
  settled : (first : Files) → IsReady first l.names l.fn.cells l.top
      → SettledTo first l.fn.cells 0 (g.D.Disk.files l.fn.disk) (g.D.Disk.leaves l.fn.disk)
      → SettledTo first l.fn.cells l.number (g.D.Disk.files l.disk) (g.D.Disk.leaves l.disk);
  only : (first : Files) → IsReady first l.names l.fn.cells l.top
      → SettledTo first l.fn.cells 0 (g.D.Disk.files l.fn.disk) (g.D.Disk.leaves l.fn.disk)
      → LeavesOnly g.D.Disk.moment g.D.Disk.since l.fn.disk l.disk (IsSameFolder first);
  from : (first : Files) → IsReady first l.names l.fn.cells l.top
      → FiledNow first l.fn.cells 0 (g.D.Disk.files l.fn.disk)
      → LeavesFrom first (g.D.Disk.leaves l.fn.disk)
      → StaysFrom g.D.Disk.moment g.D.Disk.since g.D.Disk.leaves first l.fn.disk l.disk;
}
