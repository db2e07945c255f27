use Rattle.std.proofs.Common.{sym, subst}
use Rattle.path_threads.specs.Crews.{AreWrites}
use Rattle.path_threads.proofs.worker.commit_share.Goals as goal

pub commit_writes-requires-clause-writes : goal.commit_writes-requires-clause-writes
commit_writes-requires-clause-writes g c =
    subst (λ (v : _). AreWrites c.args.sizes v.items) (sym c.replace-writes.ensures.value)
    c.requires.writes
