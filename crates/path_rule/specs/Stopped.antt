-- What a stopped log takes.
use Rattle.std.specs.Prelude.{◌≡◌, length}
use Rattle.std.specs.List.{filter}
use Rattle.path_core.specs.declared.state.PathState.{PathState}
use Rattle.path_core.specs.Parts.{is_marker}

-- From one state to another the log was stopped, and no marker was claimed, and no group of the
-- append order made.
pub record TakesNothing (x y : PathState) : Type 0 where
  pub stopped : y.stopped ≡ x.stopped
  pub markers : length (filter is_marker y.claims) ≡ length (filter is_marker x.claims)
  pub groups : length y.append.tallies ≡ length x.append.tallies
