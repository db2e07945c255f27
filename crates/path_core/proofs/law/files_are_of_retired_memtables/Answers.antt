use Rattle.path_core.proofs.runs.EveryRun.{from_opening}
use Rattle.path_core.proofs.law.files_are_of_retired_memtables.Goals as goal

pub returns : goal.returns
returns c = λ x y events f start run h.
    (from_opening x y events start run).last_file_is_retired.each f h
