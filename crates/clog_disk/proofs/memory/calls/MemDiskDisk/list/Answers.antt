use Rattle.std.proofs.Common.{◌∙◌}
use Rattle.clog_disk.proofs.States.{keys-files_of}
use Rattle.clog_disk.proofs.memory.calls.MemDiskDisk.list.Goals as goal

pub returns-clause-names : goal.returns-clause-names
returns-clause-names c =
    c.new.ensures ∙ c.in_ok-names.ensures.names
    ∙ keys-files_of c.args.self.now.files.entries c.in_ok-names.ensures.ordered
