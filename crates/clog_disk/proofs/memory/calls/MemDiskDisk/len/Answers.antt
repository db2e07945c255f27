use Rattle.std.proofs.Common.{length, sym, ap}
use Rattle.clog_disk.proofs.States.{stands, absent}
use Rattle.clog_disk.proofs.Calls.{there}
use Rattle.clog_disk.proofs.memory.calls.MemDiskDisk.len.Goals as goal

pub returns-in-Some-clause-length : goal.returns-in-Some-clause-length
returns-in-Some-clause-length c =
    let es = c.args.self.now.files.entries in
    let file = c.in-Some.file.now in (
      file.bytes,
      stands es c.args.name.now file c.in-Some.ensures.value,
      ap (λ l. length l) c.as_slice.ensures,
    )

pub returns-in-Some-clause-finds : goal.returns-in-Some-clause-finds
returns-in-Some-clause-finds c =
    there c.args.self.now.files.entries c.args.name.now c.in-Some.file.now c.in-Some.ensures.value

pub returns-in-None-clause-finds : goal.returns-in-None-clause-finds
returns-in-None-clause-finds c =
    absent c.args.self.now.files.entries c.args.name.now (sym c.in-None.ensures.value)
