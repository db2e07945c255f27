use Rattle.std.proofs.Common.{Some, None, ap, sym}
use Rattle.clog_disk.specs.declared.memory.MemDisk.{MemDisk}
use Rattle.clog_disk.specs.InMemory.{state_of}
use Rattle.clog_disk.proofs.Undoing.{elapses}
use Rattle.clog_disk.proofs.Calls.{absent_by, there_by}
use Rattle.clog_disk.proofs.MovedFiles.{lasts_as, turns_to, none_leaves, gone_reads}
use Rattle.clog_disk.proofs.memory.calls.MemDiskDisk.remove.Goals as goal

pub returns-then-not-contains_key-clause-finds : goal.returns-then-not-contains_key-clause-finds
returns-then-not-contains_key-clause-finds c =
    absent_by c.args.self.now.files.entries c.args.name.now (sym c.if-not-contains_key.ensures)

pub returns-in-Ok-clause-finds : goal.returns-in-Ok-clause-finds
returns-in-Ok-clause-finds c =
    there_by c.args.self.now.files.entries c.args.name.now (sym c.if-not-contains_key.ensures)

pub returns-in-Err-clause-time : goal.returns-in-Err-clause-time
returns-in-Err-clause-time c =
    elapses (λ (d : MemDisk). state_of d.files.entries) (λ (d : MemDisk). d.undos.items) _ _
    c.remove_file.ensures.steps

pub returns-in-Ok-clause-time : goal.returns-in-Ok-clause-time
returns-in-Ok-clause-time c =
    elapses (λ (d : MemDisk). state_of d.files.entries) (λ (d : MemDisk). d.undos.items) _ _
    c.remove_file.ensures.steps

pub returns-in-Ok-clause-puts : goal.returns-in-Ok-clause-puts
returns-in-Ok-clause-puts c =
    ap (λ m. Some m) (gone_reads c.args.self.now.files.entries c.remove_file.new.files.entries
    c.args.name.now c.in-Ok.ensures.ok)

pub returns-in-Ok-clause-lasts : goal.returns-in-Ok-clause-lasts
returns-in-Ok-clause-lasts c =
    lasts_as c.args.self.now.files.entries c.remove_file.new.files.entries c.args.name.now None
    None c.in-Ok.ensures.ok none_leaves

pub returns-in-Ok-clause-crash : goal.returns-in-Ok-clause-crash
returns-in-Ok-clause-crash c =
    turns_to c.args.self.now.files.entries c.remove_file.new.files.entries c.args.name.now None
    None c.in-Ok.ensures.ok none_leaves
