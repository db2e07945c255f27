use Rattle.path_core.proofs.runs.EveryRun.{from_opening}
use Rattle.path_core.proofs.files.DroppedInFiles.{is_in_file_of}
use Rattle.path_core.proofs.law.dropped_entries_are_in_files.Goals as goal

pub returns : goal.returns
returns c = λ x y events o n t start run dropped h of_segment touched.
    let L = from_opening x y events start run in
    is_in_file_of y L o (L.dropped_was_droppable.droppable o dropped) n t h of_segment touched
