use Rattle.std.proofs.Common.{◌++◌, [], refl}
use Rattle.path_core.proofs.keeper_law.what_may_be_synced_can_be.Goals as goal

pub returns : goal.returns
returns c = λ h upto pending M. (
  record h { synced = upto; logged = h.logged ++ M.run; kept = [] },
  M.left,
  record { run = M.run; parted = M.parted; holds = refl },
)
