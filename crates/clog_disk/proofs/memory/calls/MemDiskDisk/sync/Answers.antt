use Rattle.std.proofs.Common.{Some, sym, ap}
use Rattle.clog_disk.specs.declared.memory.MemDisk.{MemDisk}
use Rattle.clog_disk.specs.InMemory.{state_of}
use Rattle.clog_disk.proofs.Undoing.{elapses}
use Rattle.clog_disk.proofs.Calls.{absent_by, there_by, same_read, lasts, within_old}
use Rattle.clog_disk.proofs.memory.calls.MemDiskDisk.sync.Goals as goal

pub returns-then-not-contains_key-clause-finds : goal.returns-then-not-contains_key-clause-finds
returns-then-not-contains_key-clause-finds c =
    absent_by c.args.self.now.files.entries c.args.name.now (sym c.if-not-contains_key.ensures)

pub returns-in_err-settle_file-clause-time : goal.returns-in_err-settle_file-clause-time
returns-in_err-settle_file-clause-time c =
    elapses (λ (d : MemDisk). state_of d.files.entries) (λ (d : MemDisk). d.undos.items) _ _
    c.settle_file.ensures.steps

pub returns-clause-time : goal.returns-clause-time
returns-clause-time c =
    elapses (λ (d : MemDisk). state_of d.files.entries) (λ (d : MemDisk). d.undos.items) _ _
    c.settle_file.ensures.steps

pub returns-clause-lasts : goal.returns-clause-lasts
returns-clause-lasts c =
    lasts c.args.self.now.files.entries c.settle_file.new.files.entries c.args.name.now
    c.in_ok-settle_file.ensures.ok

pub returns-clause-same : goal.returns-clause-same
returns-clause-same c =
    ap (λ m. Some m) (
    same_read c.args.self.now.files.entries c.settle_file.new.files.entries c.args.name.now
    c.in_ok-settle_file.ensures.ok
    )

pub returns-clause-crash : goal.returns-clause-crash
returns-clause-crash c =
    within_old c.args.self.now.files.entries c.settle_file.new.files.entries c.args.name.now
    c.in_ok-settle_file.ensures.ok

pub returns-clause-finds : goal.returns-clause-finds
returns-clause-finds c =
    there_by c.args.self.now.files.entries c.args.name.now (sym c.if-not-contains_key.ensures)
