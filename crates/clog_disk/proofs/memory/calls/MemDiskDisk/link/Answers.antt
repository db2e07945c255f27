use Rattle.std.proofs.Common.{◌∙◌, Some, ap, sym}
use Rattle.clog_disk.specs.declared.memory.MemDisk.{MemDisk}
use Rattle.clog_disk.specs.InMemory.{state_of}
use Rattle.clog_disk.proofs.Undoing.{elapses}
use Rattle.clog_disk.proofs.States.{stands, absent}
use Rattle.clog_disk.proofs.Calls.{there}
use Rattle.clog_disk.proofs.MovedFiles.{linked_reads, linked_lasts, linked_turns}
use Rattle.clog_disk.proofs.memory.calls.MemDiskDisk.link.Goals as goal

pub returns-in-None-clause-finds : goal.returns-in-None-clause-finds
returns-in-None-clause-finds c =
    absent c.args.self.now.files.entries c.args.name.now (sym c.in-None.ensures.value)

pub returns-in-Ok-clause-finds : goal.returns-in-Ok-clause-finds
returns-in-Ok-clause-finds c =
    there c.args.self.now.files.entries c.args.name.now c.in-Some.file.now c.in-Some.ensures.value

pub returns-clause-time : goal.returns-clause-time
returns-clause-time c =
    elapses (λ (d : MemDisk). state_of d.files.entries) (λ (d : MemDisk). d.undos.items) _ _
    c.put_lasting.ensures.steps

pub returns-in-Ok-clause-time : goal.returns-in-Ok-clause-time
returns-in-Ok-clause-time c =
    elapses (λ (d : MemDisk). state_of d.files.entries) (λ (d : MemDisk). d.undos.items) _ _
    c.put_lasting.ensures.steps

pub returns-in-Ok-clause-puts : goal.returns-in-Ok-clause-puts
returns-in-Ok-clause-puts c =
    ap (λ m. Some m) (
    linked_reads c.args.self.now.files.entries c.put_lasting.new.files.entries c.args.name.now
    c.args.second.now c.as_slice-bytes.result.now c.in-Ok.ensures.ok
    (ap (λ l. Some l) (
    c.as_slice-bytes.ensures ∙ c.in_ok-bytes-in-Some.ensures ∙ c.as_slice.ensures
    )
    ∙ sym (
    stands c.args.self.now.files.entries c.args.name.now c.in-Some.file.now c.in-Some.ensures.value
    )))

pub returns-in-Ok-clause-lasts : goal.returns-in-Ok-clause-lasts
returns-in-Ok-clause-lasts c =
    linked_lasts c.args.self.now.files.entries c.put_lasting.new.files.entries c.args.name.now
    c.args.second.now c.as_slice-bytes.result.now c.in-Ok.ensures.ok
    (ap (λ l. Some l) (
    c.as_slice-bytes.ensures ∙ c.in_ok-bytes-in-Some.ensures ∙ c.as_slice.ensures
    )
    ∙ sym (
    stands c.args.self.now.files.entries c.args.name.now c.in-Some.file.now c.in-Some.ensures.value
    ))

pub returns-in-Ok-clause-crash : goal.returns-in-Ok-clause-crash
returns-in-Ok-clause-crash c =
    linked_turns c.args.self.now.files.entries c.put_lasting.new.files.entries c.args.name.now
    c.args.second.now c.as_slice-bytes.result.now c.in-Ok.ensures.ok
    (ap (λ l. Some l) (
    c.as_slice-bytes.ensures ∙ c.in_ok-bytes-in-Some.ensures ∙ c.as_slice.ensures
    )
    ∙ sym (
    stands c.args.self.now.files.entries c.args.name.now c.in-Some.file.now c.in-Some.ensures.value
    ))
