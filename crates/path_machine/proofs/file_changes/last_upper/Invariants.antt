use Rattle.std.proofs.Common.{◌≡◌, take}
use Rattle.path_core.specs.Parts.{last_upper}
use Rattle.path_machine.proofs.file_changes.last_upper.Given as goal

abbrev pub invariant-loop-file : goal.invariant-loop-file
invariant-loop-file l = l.upper ≡ last_upper (take l.file-index l.files) l.table
