-- The memtables that accepted a deposited write, and what the close of the write carries.
use Rattle.std.specs.Prelude.{◌≡◌, ◌≢◌, ℕ, zero, suc, ◌+◌, ◌<◌, true, ◌/◌, ◌%◌, ◌==◌}
use Rattle.std.specs.Prelude.{if◌then◌else◌, List, [], ◌∷◌, Some, IsTrue}
use Rattle.std.specs.Option.{option_map_or}
use Rattle.clog_base.specs.declared.cell.Table.{Table}
use Rattle.path_core.specs.declared.seat.Seat.{Seat}
use Rattle.path_core.specs.declared.seat.SeatTable.{SeatTable}
use Rattle.path_core.specs.declared.state.Bound.{Bound}
use Rattle.path_core.specs.declared.state.Bound.TheVariants.{Live}
use Rattle.path_core.specs.Parts.{is_final, seat_table, touches}
use Rattle.path_core.specs.SeatParts.{is_final_below, is_raising, takes}
use Rattle.path_rule.specs.Layout.{numbers_end}

-- The tables of a set from a number on, each with a memtable. Of the set's bits, from that table
-- on, so many are read.
abbrev pub places_from : (ℕ → ℕ) → ℕ → ℕ → ℕ → List (Table × ℕ)
places_from memtable zero first bits = []
places_from memtable (suc more) first bits =
    if bits % 2 == 1
    then (record { 0 = first }, memtable first) ∷ places_from memtable more (suc first) (bits / 2)
    else places_from memtable more (suc first) (bits / 2)

-- the memtable of a seat's place at a table
abbrev pub place_at : Seat → ℕ → ℕ
place_at s t = option_map_or (λ (m : ℕ). m) (seat_table s t).place 0

-- the tables of its note
abbrev pub tables_noted : Seat → ℕ
tables_noted s = option_map_or (λ (tables : ℕ). tables) s.note 0

-- each table of its note with its place there
abbrev pub places_of : Seat → List (Table × ℕ)
places_of s = places_from (place_at s) (tables_noted s) 0 (tables_noted s)

-- What a bound, found at the memtable that a write with this end tries, makes of what its seat does
-- at the table: one that takes the write is its place; behind one that is final below it the next
-- is tried, whose number fits its word; at a raising one nothing is settled.
pub record TriesBound (end m : ℕ) (b : Bound) (after : SeatTable) : Type 0 where
  pub takes : takes end b ≡ true → after.place ≡ Some m
  pub later : is_final_below end b ≡ true → (after.trying ≡ Some (m + 1)) × (m + 1 < numbers_end)
  pub raising : is_raising b ≡ true → after.trying ≡ Some m
  pub found : after.bound ≡ Some (record { memtable = m; bound = b })

-- What the raise of a bound, at which this stood, makes of what the seat of a writer that tries the
-- memtable does at the table: a raising one takes the write; a final one stays, and it has to look.
pub record RaisesBound (m : ℕ) (b : Bound) (after : SeatTable) : Type 0 where
  pub not_live : b ≢ Live
  pub place : is_raising b ≡ true → after.place ≡ Some m
  pub trying : after.trying ≡ Some m
  pub final : is_final b ≡ true → after.bound ≡ Some (record { memtable = m; bound = b })

-- The seat has deposited its note, and has a place at each table of it.
pub record IsPlaced (s : Seat) : Type 0 where
  pub tables : ℕ
  pub deposited : s.note ≡ Some tables
  pub each : (t : ℕ) → IsTrue (touches tables t) → (m : ℕ) × ((seat_table s t).place ≡ Some m)
