-- What each built step keeps: a stopped log tells a count of faults that has risen.
use Rattle.std.proofs.Common.{ℕ, ◌<◌}
use Rattle.path_core.specs.declared.event.Cursor.TheVariants.{Synced, OldestLive, Stopped}
use Rattle.path_core.specs.declared.event.Event.{Event}
use Rattle.path_core.specs.declared.event.Event.TheVariants.{Put}
use Rattle.path_core.specs.declared.state.PathState.{PathState}
use Rattle.path_core.specs.Keeper.{HasRisen}
use Rattle.path_core.specs.Next.{next_of}
use Rattle.path_rule.specs.Rule.{IsBuilt}

module _ (opened : ℕ) (x : PathState) where
  pub still_risen : (e : Event) → IsBuilt opened x e → (0 < x.stopped → HasRisen opened x.stopped)
      → 0 < (next_of x e).stopped → HasRisen opened (next_of x e).stopped
  still_risen (Put by Stopped value) built old above = built
  still_risen (Put by Synced value) built old above = old above
  still_risen (Put by (OldestLive t) value) built old above = old above
  still_risen e built old above = old above
