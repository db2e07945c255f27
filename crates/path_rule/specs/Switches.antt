-- What the holder of a table's Flush turn found of its memtables, or put there, while it held it.
use Rattle.std.specs.Prelude.{◌≡◌, ◌≢◌, ◌⊎◌, ℕ, ◌<◌, ◌≤◌, Some}
use Rattle.path_core.specs.declared.seat.FlushTurn.{FlushTurn}
use Rattle.path_core.specs.declared.seat.Seat.{Seat}
use Rattle.path_core.specs.declared.seat.Switching.TheVariants.{Settled, WithBarrier}
use Rattle.path_core.specs.declared.state.Bound.TheVariants.{Raising}
use Rattle.path_core.specs.Parts.{seat_table, stage_of}
use Rattle.path_rule.specs.declared.view.FlushRead.{FlushRead}
use Rattle.path_rule.specs.declared.view.Hands.{Hands}
use Rattle.path_rule.specs.declared.view.View.{View}
use Rattle.path_rule.specs.Turns.{FoundPast}

-- it reads no memtable of the table
abbrev pub ReadsNone : ℕ → Hands → Type 0
ReadsNone t h = (q : FlushRead) → h.reading ≡ Some q → q.table ≢ t

-- The newest switch of a table is through, so that its turn may be given back: the seat began none,
-- or found the barrier of the last one passed. And it reads no memtable of the table.
abbrev pub MayGiveFlush : ℕ → View → Type 0
MayGiveFlush t v = ((stage_of v.part t ≡ Some Settled) × ReadsNone t v.hands)
    ⊎ ((m g : ℕ) × (stage_of v.part t ≡ Some (WithBarrier m g)) × FoundPast v.part g
    × ReadsNone t v.hands)

-- the newest memtable
abbrev pub FlushNewest : ℕ → Seat → ℕ → Type 0
FlushNewest t p n = (turn : FlushTurn) × ((seat_table p t).flush ≡ Some turn)
    × (turn.newest ≡ Some n)

-- the least that is not retired
abbrev pub FlushOldest : ℕ → Seat → ℕ → Type 0
FlushOldest t p n = (turn : FlushTurn) × ((seat_table p t).flush ≡ Some turn)
    × (turn.oldest_live ≡ Some n)

-- the place of this memtable, which is to come, is cleared
abbrev pub FlushCleared : ℕ → Seat → ℕ → Type 0
FlushCleared t p n = (turn : FlushTurn) × ((seat_table p t).flush ≡ Some turn)
    × (turn.cleared ≡ Some n)

-- An earlier holder of the turn switched the memtable, and left it: the seat began no switch, and
-- the memtable lies below the newest.
abbrev pub IsLeft : ℕ → Seat → ℕ → Type 0
IsLeft t p m = (n : ℕ) × (stage_of p t ≡ Some Settled) × FlushNewest t p n × (m < n)

-- No write is placed in the memtable any more: the seat found the barrier passed that it issued for
-- it, or an earlier holder left the memtable.
abbrev pub MayBeginRead : ℕ → View → ℕ → Type 0
MayBeginRead t v m = ((g : ℕ) × (stage_of v.part t ≡ Some (WithBarrier m g))
    × FoundPast v.part g) ⊎ IsLeft t v.part m

-- the bound of a raising memtable, which is at or above this key since
abbrev pub FlushRaised : ℕ → Seat → ℕ → ℕ → Type 0
FlushRaised t p m key = (turn : FlushTurn) × (k : ℕ) × ((seat_table p t).flush ≡ Some turn)
    × (turn.bound ≡ Some (record { memtable = m; bound = Raising (record { 0 = k }) }))
    × (key ≤ k)
