-- What the holder of the Sync turn knows: it is exact while it holds it.
use Rattle.std.specs.Prelude.{◌≡◌, ◌⊎◌, ℕ, suc, ◌<◌, Some, None}
use Rattle.op_core.specs.declared.count.Order.{Order}
use Rattle.op_core.specs.declared.count.Order.TheVariants.{Write, Append}
use Rattle.path_core.specs.declared.event.Cursor.TheVariants.{OldestLive}
use Rattle.path_core.specs.declared.event.Place.{Place}
use Rattle.path_core.specs.declared.event.Place.TheVariants.{Count, Newest, Bound, TurnWord}
use Rattle.path_core.specs.declared.event.Place.TheVariants.{CursorWord}
use Rattle.path_core.specs.declared.event.Turn.TheVariants.{Flush}
use Rattle.path_core.specs.declared.seat.FoundGroups.{FoundGroups}
use Rattle.path_core.specs.declared.seat.Seat.{Seat}
use Rattle.path_core.specs.declared.seat.Switching.{Switching}
use Rattle.path_core.specs.declared.seat.Switching.TheVariants.{Settled, Begun}
use Rattle.path_core.specs.declared.seat.Switching.TheVariants.{Marked as MarkedStage, Waiting}
use Rattle.path_core.specs.declared.seat.Switching.TheVariants.{WithBarrier}
use Rattle.path_core.specs.declared.seat.SyncTurn.{SyncTurn}
use Rattle.path_core.specs.Parts.{found_of, marker_of, seat_table, stage_of}
use Rattle.path_rule.specs.declared.view.Hands.{Hands}
use Rattle.path_rule.specs.declared.view.View.{View}

-- what the holder of the Sync turn found, or put, of an order's groups while it held it
abbrev pub turn_groups : Order → SyncTurn → FoundGroups
turn_groups Write t = t.write
turn_groups Append t = t.append

-- it is the current group
abbrev pub TurnSaw : Order → Seat → ℕ → Type 0
TurnSaw o p c = (t : SyncTurn) × (p.sync ≡ Some t) × ((turn_groups o t).current ≡ Some c)

-- it is the oldest one
abbrev pub TurnOld : Order → Seat → ℕ → Type 0
TurnOld o p g = (t : SyncTurn) × (p.sync ≡ Some t) × ((turn_groups o t).oldest ≡ Some g)

-- its count is finished
abbrev pub TurnGone : Order → Seat → ℕ → Type 0
TurnGone o p g = (t : SyncTurn) × (p.sync ≡ Some t) × ((turn_groups o t).finished ≡ Some g)

-- The log runs, with the synced key below this one.
abbrev pub TurnRuns : Seat → ℕ → Type 0
TurnRuns p key = (t : SyncTurn) × (k : ℕ) × (p.sync ≡ Some t) × (t.stopped ≡ Some 0)
    × (t.synced ≡ Some k) × (k < key)

-- The holder found the log running.
abbrev pub FoundRunning : Seat → Type 0
FoundRunning p = (t : SyncTurn) × (p.sync ≡ Some t) × (t.stopped ≡ Some 0)

-- The barrier of a group of the write order is passed: the seat found a later group as the oldest.
abbrev pub FoundPast : Seat → ℕ → Type 0
FoundPast p g = (h : ℕ) × ((found_of Write p).oldest ≡ Some h) × (g < h)

-- The newest switch of a table whose turn the seat holds is through: the seat began none, or the
-- barrier of the last one is passed.
abbrev pub IsSwitchThrough : ℕ → Seat → Type 0
IsSwitchThrough t p = (stage_of p t ≡ Some Settled)
    ⊎ ((m g : ℕ) × (stage_of p t ≡ Some (WithBarrier m g)) × FoundPast p g)

-- The seat's write tries this memtable of the table.
abbrev pub KnowsMemtable : Seat → ℕ → ℕ → Type 0
KnowsMemtable p t m = (seat_table p t).trying ≡ Some m

-- At a stage of a switch this is the memtable below the newest.
abbrev pub StagedAt : Switching → ℕ → Type 0
StagedAt Settled m = ⊥
StagedAt (Begun n) m = n ≡ suc m
StagedAt (MarkedStage k) m = k.memtable ≡ m
StagedAt (Waiting n) m = n ≡ m
StagedAt (WithBarrier n group) m = n ≡ m

-- The seat's write tries this memtable, or its switch is at it: a word shows its bound.
abbrev pub KnowsNear : Seat → ℕ → ℕ → Type 0
KnowsNear p t m = ((seat_table p t).trying ≡ Some m)
    ⊎ ((k : Switching) × (stage_of p t ≡ Some k) × StagedAt k m)

-- Of a bound the seat's part tells the memtable.
abbrev pub IsKnown : Seat → Place → Type 0
IsKnown p (Bound t m) = KnowsMemtable p t.0 m
IsKnown p at = Unit {0}

-- The seat knows that there is such a place.
abbrev pub Sighted : View → Place → Type 0
Sighted v (Count o g) = ((found_of o v.part).current ≡ Some g)
    ⊎ (((found_of o v.part).oldest ≡ Some g) ⊎ TurnOld o v.part g)
Sighted v (Newest t) = t.0 < v.size.tables
Sighted v (Bound t m) = (t.0 < v.size.tables) × KnowsMemtable v.part t.0 m
Sighted v (TurnWord (Flush t)) = t.0 < v.size.tables
Sighted v (CursorWord (OldestLive t)) = t.0 < v.size.tables
Sighted v _ = Unit {0}

-- What it found of an order's groups is what it found before.

abbrev pub KeepsCurrent : Order → Seat → Seat → Type 0
KeepsCurrent o p q = (c : ℕ) → TurnSaw o p c → TurnSaw o q c

abbrev pub KeepsOldest : Order → Seat → Seat → Type 0
KeepsOldest o p q = (c : ℕ) → TurnOld o p c → TurnOld o q c

-- the last marker is that of seat w, which holds the Sync turn; it starts at the key and has no
-- barrier
abbrev pub MarkerWaits : ℕ → Seat → ℕ → Type 0
MarkerWaits w p start = marker_of p ≡ Some (record { by = w; start = start; barrier = None })

-- the last marker starts at the key, and has a barrier
abbrev pub IsBarred : Hands → ℕ → Type 0
IsBarred h start =
    (by group : ℕ)
    × (h.progress.marker ≡ Some (record { by = by; start = start; barrier = Some group }))
