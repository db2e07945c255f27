-- What the holder of the Sync turn knows of the cursors after a look.
use Rattle.std.proofs.Common.{◌≡◌, ℕ, ◌<◌, Some, is_some, IsTrue, refl, ap}
use Rattle.std.specs.Option.{option_map}
use Rattle.path_core.specs.declared.event.Cursor.TheVariants.{Synced, Stopped}
use Rattle.path_core.specs.declared.event.Event.TheVariants.{Look}
use Rattle.path_core.specs.declared.event.Place.TheVariants.{CursorWord}
use Rattle.path_core.specs.declared.seat.Seat.{Seat}
use Rattle.path_core.specs.declared.seat.SyncTurn.{SyncTurn}
use Rattle.path_rule.specs.declared.view.View.{View}
use Rattle.path_rule.specs.Rule.{view_after}
use Rattle.path_rule.specs.Turns.{TurnRuns}
use Rattle.path_rule.proofs.seats.HolderKnows.{the_turn}

abbrev pub StoppedSeen : Seat → ℕ → Type 0
StoppedSeen p n = (t : SyncTurn) × (p.sync ≡ Some t) × (t.stopped ≡ Some n)

pub stopped_seen : (v : View) (w n : ℕ) → IsTrue (is_some v.part.sync)
    → StoppedSeen (view_after v (Look w (CursorWord Stopped)) n).part n
stopped_seen v w n h = let t = the_turn v.part h in (_, ap (option_map _) t.1, refl)

pub synced_seen : (v : View) (w n value : ℕ) (t : SyncTurn) → v.part.sync ≡ Some t
    → t.stopped ≡ Some 0 → n < value → TurnRuns
    (view_after v (Look w (CursorWord Synced)) n).part value
synced_seen v w n value t sync runs low = (
  record t { synced = Some n },
  n,
  ap
      (option_map (λ (turn : SyncTurn). record turn { synced = Some n })) sync,
  runs,
  refl,
  low,
)
