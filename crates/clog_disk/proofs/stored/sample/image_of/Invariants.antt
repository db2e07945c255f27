use Rattle.clog_disk.specs.InMemory.{state_of}
use Rattle.clog_disk.proofs.Samples.{IsMaking}
use Rattle.clog_disk.proofs.stored.sample.image_of.Given as goal

abbrev pub invariant-loop-name : goal.invariant-loop-name
invariant-loop-name l =
    IsMaking l.left l.files.entries l.name-iterator (state_of l.image.entries)
