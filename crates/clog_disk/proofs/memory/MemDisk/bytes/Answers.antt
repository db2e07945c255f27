use Rattle.std.proofs.Common.{◌∙◌, Some, sym, ap}
use Rattle.clog_disk.proofs.States.{stands, absent}
use Rattle.clog_disk.proofs.memory.MemDisk.bytes.Goals as goal

pub returns-in-Some : goal.returns-in-Some
returns-in-Some c =
    let es = c.args.self.now.files.entries in
    let name = c.args.name.now in
    ap (λ l. Some l) c.as_slice.ensures
    ∙ sym (stands es name c.in-Some.file.now c.in-Some.ensures.value)

pub returns-in-None : goal.returns-in-None
returns-in-None c =
    sym (
    absent c.args.self.now.files.entries c.args.name.now (sym c.in-None.ensures.value)
    )
