-- What a run that has logged all lines still does with its keeper.
use Rattle.std.specs.Prelude.{Bool, Contains}
use Rattle.path_core.specs.Keeper.{Holding, PutFile}
use Rattle.clog_closing.specs.Beside.{HasFinished}

-- It has finished, and each table file that was put before is there.
pub record Settles (drain : Bool) (before now : Holding) : Type 0 where
  pub finished : HasFinished drain now
  pub keeps : (f : PutFile) → Contains before.files f → Contains now.files f
