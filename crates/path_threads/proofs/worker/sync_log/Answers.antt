use Rattle.std.proofs.Common.{sym, ◌∙◌}
use Rattle.path_threads.proofs.worker.sync_log.Goals as goal

pub returns-then-issued-gt-MOST_ISSUED-clause-seated :
    goal.returns-then-issued-gt-MOST_ISSUED-clause-seated
returns-then-issued-gt-MOST_ISSUED-clause-seated g c =
    let had = c.requires in (had.0, sym c.in-Some.is ∙ c.take.ensures.value ∙ had.1, had.2)
