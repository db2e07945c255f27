use Rattle.std.proofs.Common.{◌≡◌, ◌++◌}
use Rattle.std.specs.List.{flat_map}
use Rattle.clog_disk.specs.Sample.{spoils, sample_of}
use Rattle.clog_disk.proofs.stored.sample.sample_of.Given as goal

-- what is left completes the sample
abbrev pub invariant-loop-name : goal.invariant-loop-name
invariant-loop-name l =
    l.sample.items ++ flat_map spoils l.name-iterator ≡ sample_of l.files.entries
