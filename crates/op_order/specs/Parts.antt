-- What the contracts say of seats.
use Rattle.std.specs.Prelude.{◌≡◌, ℕ, ◌+◌, ◌<◌, ◌≤◌, []}
use Rattle.atomic_table.specs.Seated.{TableId}
use Rattle.atomic_table.specs.declared.shared.Seat.{Seat}
use Rattle.op_order.specs.declared.view.OwnerPart.{OwnerPart}
use Rattle.op_order.specs.declared.view.ReaderPart.{ReaderPart}
use Rattle.op_order.specs.declared.view.Stage.TheVariants.{Rest}
use Rattle.op_order.specs.declared.view.View.{View}
use Rattle.op_order.specs.declared.view.View.TheVariants.{Owns, Reads}
use Rattle.op_order.specs.Rule.{first_part, new_reader}
use Rattle.op_order.specs.Told.{with_store, with_root, with_open, with_move, with_rest}

-- what the owner's seat knows, and what a reader's does; of another seat, what a new one does
abbrev pub owner_in : View → OwnerPart
owner_in (Owns p) = p
owner_in (Reads r) = first_part 0

abbrev pub reader_in : View → ReaderPart
reader_in (Owns p) = new_reader
reader_in (Reads r) = r

abbrev pub part_of : Seat ℕ View → OwnerPart
part_of s = owner_in s.me.0

abbrev pub read_of : Seat ℕ View → ReaderPart
read_of s = reader_in s.me.0

-- it is the owner's seat, with this part
abbrev pub OwnsAs : Seat ℕ View → OwnerPart → Type 0
OwnsAs s p = s.me ≡ (Owns p, [])

-- it is a reader's
abbrev pub ReadsAs : Seat ℕ View → ReaderPart → Type 0
ReadsAs s r = s.me ≡ (Reads r, [])

-- a seat of this table, the owner's or a reader's
abbrev pub IsOwner : TableId → Seat ℕ View → Type 0
IsOwner z s = (s.table_id ≡ z) × OwnsAs s (part_of s)

abbrev pub IsReader : TableId → Seat ℕ View → Type 0
IsReader z s = (s.table_id ≡ z) × ReadsAs s (read_of s)

-- the owner's seat has made a step, and has this part since
abbrev pub OwnerSteps : Seat ℕ View → Seat ℕ View → OwnerPart → Type 0
OwnerSteps s s' p = (s'.table_id ≡ s.table_id) × OwnsAs s' p

-- the same of a reader's seat
abbrev pub ReaderSteps : Seat ℕ View → Seat ℕ View → ReaderPart → Type 0
ReaderSteps s s' r = (s'.table_id ≡ s.table_id) × ReadsAs s' r

-- after a whole publication
abbrev pub published : ℕ → OwnerPart → OwnerPart
published v p = with_rest (with_move (with_open (with_root (with_store v p))))

-- the owner's part between two calls
abbrev pub RestsAt : OwnerPart → ℕ → ℕ → ℕ → Type 0
RestsAt p sequence oldest places = (p.stage ≡ Rest) × (p.sequence ≡ sequence)
    × (p.current ≡ sequence) × (p.oldest ≡ oldest) × (oldest ≤ sequence)
    × (sequence < oldest + places) × (sequence ≤ 1099511627776)
