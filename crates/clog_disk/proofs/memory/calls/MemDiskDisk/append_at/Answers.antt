use Rattle.std.proofs.Common.{Some, ap}
use Rattle.clog_disk.specs.declared.memory.MemDisk.{MemDisk}
use Rattle.clog_disk.specs.InMemory.{state_of}
use Rattle.clog_disk.proofs.Undoing.{elapses}
use Rattle.clog_disk.proofs.Calls.{tears, appended}
use Rattle.clog_disk.proofs.memory.calls.MemDiskDisk.append_at.Goals as goal

pub returns-in-Err-clause-time : goal.returns-in-Err-clause-time
returns-in-Err-clause-time c =
    elapses (λ (d : MemDisk). state_of d.files.entries) (λ (d : MemDisk). d.undos.items) _ _
    c.append_to.ensures.steps

pub returns-in-Ok-clause-time : goal.returns-in-Ok-clause-time
returns-in-Ok-clause-time c =
    elapses (λ (d : MemDisk). state_of d.files.entries) (λ (d : MemDisk). d.undos.items) _ _
    c.append_to.ensures.steps

pub returns-in-Ok-clause-appends : goal.returns-in-Ok-clause-appends
returns-in-Ok-clause-appends c =
    ap (λ m. Some m) (
    appended c.args.self.now.files.entries c.append_to.new.files.entries c.args.name.now
    c.args.bytes.now c.in-Ok.ensures.ok
    )

pub returns-in-Ok-clause-crash : goal.returns-in-Ok-clause-crash
returns-in-Ok-clause-crash c =
    tears c.args.self.now.files.entries c.append_to.new.files.entries c.args.name.now
    c.args.bytes.now c.in-Ok.ensures.ok
