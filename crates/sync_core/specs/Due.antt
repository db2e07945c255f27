-- When a sync is due.
use Rattle.std.specs.Prelude.{ℕ, ◌+◌, ◌≤◌, ◌<◌}
use Rattle.sync_core.specs.declared.SyncCore.{SyncCore}
use Rattle.sync_core.specs.declared.SyncCore.TheVariants.{Batch, Periodic}

-- In batch mode: a writer waits for one. In periodic mode: the period has passed since the last
-- one, as numbers without an end, so that no sum wraps.
abbrev pub IsDue : SyncCore → ℕ → ℕ → ℕ → Type 0
IsDue Batch now last wants = 0 < wants
IsDue (Periodic period) now last wants = last + period ≤ now
