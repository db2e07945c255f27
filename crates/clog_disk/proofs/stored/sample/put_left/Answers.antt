use Rattle.std.proofs.Common.{◌∙◌, sym}
use Rattle.clog_disk.specs.InMemory.{state_of}
use Rattle.clog_disk.proofs.States.{with_same}
use Rattle.clog_disk.proofs.stored.sample.put_left.Goals as goal

pub returns-in-None : goal.returns-in-None
returns-in-None c =
    sym (with_same (state_of c.args.image.now.entries) c.args.name.now _
    (sym c.in_ok-file.ensures ∙ c.in-None.is ∙ sym c.requires))
