-- What a new table has.
use Rattle.std.specs.Prelude.{◌≡◌, ℕ, suc, ◌+◌, ◌*◌, ◌^◌, ◌<◌, ◌≤◌, List, length, slice_index}
use Rattle.std.specs.List.{All}
use Rattle.op_order.specs.declared.seats.Reader.{Reader}
use Rattle.op_order.specs.declared.view.OwnerPart.{OwnerPart}
use Rattle.op_order.specs.Parts.{read_of}
use Rattle.op_order.specs.Rule.{new_reader}

-- The words of a new table: the first value stands in place 0, and each word of a count but the
-- first is marked expired.
pub record AreFirst (places first : ℕ) (words : List ℕ) : Type 0 where
  pub wide : length words ≡ 11 + 2 * places
  pub root : slice_index words 0 ≡ 0
  pub current : slice_index words 1 ≡ 0
  pub oldest : slice_index words 2 ≡ 0
  pub value : slice_index words 3 ≡ first
  pub group : slice_index words (10 + places) ≡ 0
  pub others : (i : ℕ) → 0 < i → i < suc places → 2 ^ 63 ≤ slice_index words (10 + places + i)

-- each reader has made no step
abbrev pub AreNew : List Reader → Type 0
AreNew readers = All (λ (r : Reader). read_of r.seat ≡ new_reader) readers

-- the owner once it has handed out a seat
abbrev pub more_seats : OwnerPart → OwnerPart
more_seats p = record p { seats = suc p.seats }
