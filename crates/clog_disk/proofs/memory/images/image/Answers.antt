use Rattle.std.proofs.Common.{◌∙◌, ap}
use Rattle.clog_disk.specs.InMemory.{state_of}
use Rattle.clog_disk.proofs.memory.images.image.Goals as goal

pub returns : goal.returns
returns c = record {
  files = λ name. ap (λ fs. state_of fs.entries name) c.restarted.ensures.files
      ∙ c.in_ok-files.ensures name;
  undos = c.restarted.ensures.undos;
  changes = c.restarted.ensures.changes;
  failing = c.restarted.ensures.failing;
}
