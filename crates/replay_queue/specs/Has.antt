-- What a thread's state is of.
use Rattle.std.specs.Prelude.{◌≡◌, List, false}
use Rattle.replay_queue.specs.declared.work.Own.{Own}

-- unless it has failed, the state is of these items
abbrev pub Has : {T S : Type 0} → (S → List T → Type 0) → Own S → List T → Type 0
Has done own items = own.failed ≡ false → done own.state items
