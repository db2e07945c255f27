use Rattle.std.proofs.Common.{◌≡◌, ℕ, ◌<◌, false, get_or}
use Rattle.path_core.specs.declared.state.WrittenFile.{WrittenFile}
use Rattle.path_core.specs.Droppable.{is_in_file}
use Rattle.path_machine.proofs.table_files.end_of_file.Given as goal

abbrev pub invariant-loop-file : goal.invariant-loop-file
invariant-loop-file l = (k : ℕ) (d : WrittenFile) → k < l.file-index
    → is_in_file l.table l.key (get_or l.files k d) ≡ false
