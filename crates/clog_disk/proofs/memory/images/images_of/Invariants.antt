use Rattle.std.proofs.Common.{take}
use Rattle.std.specs.List.{AllZip}
use Rattle.clog_disk.specs.Sample.{IsMadeFrom}
use Rattle.clog_disk.proofs.memory.images.images_of.Given as goal

-- an image was made for each that was yielded
abbrev pub invariant-loop-left : goal.invariant-loop-left
invariant-loop-left l =
    AllZip (IsMadeFrom l.past.entries) (take l.left-index l.left-items) l.images.items
