use Rattle.std.proofs.Common.{◌∙◌, take, drop, sym, ap}
use Rattle.clog_disk.proofs.States.{stands, absent}
use Rattle.clog_disk.proofs.Calls.{there}
use Rattle.clog_disk.proofs.memory.calls.MemDiskDisk.read.Goals as goal

pub returns-in_ok-part-in-Some-clause-bytes : goal.returns-in_ok-part-in-Some-clause-bytes
returns-in_ok-part-in-Some-clause-bytes c =
    let es = c.args.self.now.files.entries in
    let file = c.in-Some.file.now in (
      file.bytes,
      stands es c.args.name.now file c.in-Some.ensures.value,
      c.in_ok-part-in-Some.ensures
          ∙ ap (λ l. take c.args.count (drop c.args.at l)) c.as_slice.ensures,
    )

pub returns-in_ok-part-in-Some-clause-finds : goal.returns-in_ok-part-in-Some-clause-finds
returns-in_ok-part-in-Some-clause-finds c =
    there c.args.self.now.files.entries c.args.name.now c.in-Some.file.now c.in-Some.ensures.value

pub returns-in-None-clause-finds : goal.returns-in-None-clause-finds
returns-in-None-clause-finds c =
    absent c.args.self.now.files.entries c.args.name.now (sym c.in-None.ensures.value)
