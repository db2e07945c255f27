use Rattle.std.proofs.Common.{Some, ap}
use Rattle.clog_disk.specs.declared.memory.MemDisk.{MemDisk}
use Rattle.clog_disk.specs.InMemory.{state_of}
use Rattle.clog_disk.specs.Stored.{lasting_of}
use Rattle.clog_disk.proofs.Undoing.{elapses}
use Rattle.clog_disk.proofs.MovedFiles.{lasts_as, turns_to, lasting_leaves, put_reads}
use Rattle.clog_disk.proofs.memory.calls.MemDiskDisk.publish.Goals as goal

pub returns-in-Err-clause-time : goal.returns-in-Err-clause-time
returns-in-Err-clause-time c =
    elapses (λ (d : MemDisk). state_of d.files.entries) (λ (d : MemDisk). d.undos.items) _ _
    c.put_lasting.ensures.steps

pub returns-in-Ok-clause-time : goal.returns-in-Ok-clause-time
returns-in-Ok-clause-time c =
    elapses (λ (d : MemDisk). state_of d.files.entries) (λ (d : MemDisk). d.undos.items) _ _
    c.put_lasting.ensures.steps

pub returns-in-Ok-clause-puts : goal.returns-in-Ok-clause-puts
returns-in-Ok-clause-puts c =
    ap (λ m. Some m) (put_reads c.args.self.now.files.entries c.put_lasting.new.files.entries
    c.args.name.now c.args.bytes.now c.in-Ok.ensures.ok)

pub returns-in-Ok-clause-lasts : goal.returns-in-Ok-clause-lasts
returns-in-Ok-clause-lasts c =
    lasts_as c.args.self.now.files.entries c.put_lasting.new.files.entries c.args.name.now
    (Some (lasting_of c.args.bytes.now)) (Some c.args.bytes.now) c.in-Ok.ensures.ok
    (lasting_leaves c.args.bytes.now)

pub returns-in-Ok-clause-crash : goal.returns-in-Ok-clause-crash
returns-in-Ok-clause-crash c =
    turns_to c.args.self.now.files.entries c.put_lasting.new.files.entries c.args.name.now
    (Some (lasting_of c.args.bytes.now)) (Some c.args.bytes.now) c.in-Ok.ensures.ok
    (lasting_leaves c.args.bytes.now)
