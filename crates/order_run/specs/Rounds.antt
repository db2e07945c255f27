-- What an owner and readers do over so many rounds.
use Rattle.std.specs.Prelude.{◌≡◌, ℕ, ◌*◌, ◌%◌, ◌^◌, List, length}
use Rattle.std.specs.List.{All}
use Rattle.atomic_table.specs.Seated.{TableId}
use Rattle.atomic_table.specs.declared.shared.Seat.{Seat}
use Rattle.op_order.specs.declared.seats.Reader.{Reader}
use Rattle.op_order.specs.declared.view.View.{View}
use Rattle.op_order.specs.Operations.{acts_of}
use Rattle.op_order.specs.Parts.{read_of}
use Rattle.order_run.specs.declared.readers.Reads.{Reads}
use Rattle.order_run.specs.declared.run.Totals.{Totals}

-- the value of a sequence
abbrev pub product_of : ℕ → ℕ
product_of sequence = sequence * 2654435761 % 2 ^ 32

-- how often it has joined a group or left one
abbrev pub moves_of : Seat ℕ View → ℕ
moves_of seat = acts_of (read_of seat)

-- a reader of this order that has made no operation
abbrev pub IsFresh : TableId → Reader → Type 0
IsFresh z reader = (reader.seat.table_id ≡ z) × (moves_of reader.seat ≡ 0)

-- a reader of this order has made so many operations: it has joined and left a group as often
abbrev pub HasMade : TableId → ℕ → Reader → Type 0
HasMade z rounds reader = (reader.seat.table_id ≡ z) × (moves_of reader.seat ≡ 2 * rounds)

-- it has, and tells so many
abbrev pub HasRead : TableId → ℕ → Reads → Type 0
HasRead z rounds done = HasMade z rounds done.reader × (done.reads ≡ rounds)

-- each of so many readers has
pub record HaveRead (z : TableId) (readers rounds : ℕ) (done : List Reads) : Type 0 where
  pub count : length done ≡ readers
  pub each : All (HasRead z rounds) done

-- What is told after all rounds: as many values published and places freed as there were rounds,
-- and as many operations of each reader. The last value is that of its sequence.
pub record AreTotals (readers rounds : ℕ) (totals : Totals) : Type 0 where
  pub published : totals.published ≡ rounds
  pub last : totals.last ≡ product_of rounds
  pub reads : totals.reads ≡ readers * rounds
  pub freed : totals.freed ≡ rounds
