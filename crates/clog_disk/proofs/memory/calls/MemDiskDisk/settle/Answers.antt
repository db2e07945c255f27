use Rattle.std.proofs.Common.{Some, ap}
use Rattle.clog_disk.specs.declared.memory.MemDisk.{MemDisk}
use Rattle.clog_disk.specs.InMemory.{state_of}
use Rattle.clog_disk.proofs.Undoing.{elapses}
use Rattle.clog_disk.proofs.Calls.{all_last, all_read, all_within}
use Rattle.clog_disk.proofs.memory.calls.MemDiskDisk.settle.Goals as goal

pub returns-in_err-settle_all-clause-time : goal.returns-in_err-settle_all-clause-time
returns-in_err-settle_all-clause-time c =
    elapses (λ (d : MemDisk). state_of d.files.entries) (λ (d : MemDisk). d.undos.items) _ _
    c.settle_all.ensures.steps

pub returns-clause-time : goal.returns-clause-time
returns-clause-time c =
    elapses (λ (d : MemDisk). state_of d.files.entries) (λ (d : MemDisk). d.undos.items) _ _
    c.settle_all.ensures.steps

pub returns-clause-lasts : goal.returns-clause-lasts
returns-clause-lasts c =
    all_last c.args.self.now.files.entries c.settle_all.new.files.entries
    c.in_ok-settle_all.ensures.ok

pub returns-clause-same : goal.returns-clause-same
returns-clause-same c =
    ap (λ m. Some m) (
    all_read c.args.self.now.files.entries c.settle_all.new.files.entries
    c.in_ok-settle_all.ensures.ok
    )

pub returns-clause-crash : goal.returns-clause-crash
returns-clause-crash c =
    all_within c.args.self.now.files.entries c.settle_all.new.files.entries
    c.in_ok-settle_all.ensures.ok
