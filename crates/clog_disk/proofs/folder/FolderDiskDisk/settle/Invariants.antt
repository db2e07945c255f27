use Rattle.std.proofs.Common.{◌≡◌}
use Rattle.clog_disk.proofs.folder.FolderDiskDisk.settle.Given as goal

-- no fault was counted yet
abbrev pub invariant-loop-name : goal.invariant-loop-name
invariant-loop-name g l = l.self.faults ≡ l.fn.self.faults
