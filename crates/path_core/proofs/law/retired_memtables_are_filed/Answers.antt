use Rattle.path_core.proofs.runs.EveryRun.{from_opening}
use Rattle.path_core.proofs.law.retired_memtables_are_filed.Goals as goal

pub returns : goal.returns
returns c = λ x y events t m start run inside retired.
    (from_opening x y events start run).retired_is_filed.each t m inside retired
