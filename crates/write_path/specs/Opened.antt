-- A path that was opened, and its seats when they are handed out.
use Rattle.std.specs.Prelude.{◌≡◌, ℕ, Bool, true, false, List, map}
use Rattle.std.specs.List.{All, range_with_len}
use Rattle.atomic_table.specs.Seated.{TableId}
use Rattle.clog_base.specs.declared.sizes.Sizes.{Sizes}
use Rattle.path_core.specs.Keeper.{Holding}
use Rattle.path_rule.specs.declared.view.PathSize.{PathSize}
use Rattle.path_rule.specs.Lasts.{lasting_of}
use Rattle.path_rule.specs.Rule.{new_seat}
use Rattle.path_table.specs.declared.table.Opener.{Opener}
use Rattle.path_table.specs.declared.trying.PathSeat.{PathSeat}
use Rattle.path_table.specs.Members.{view_of, IsOf}

-- What a path is told of its sizes and of its keeper's, and whether its memtables may go to table
-- files.
abbrev pub sized_for : Bool → Sizes → ℕ → ℕ → PathSize
sized_for files sizes base at_open = record {
  tables = sizes.tables;
  seats = sizes.writers;
  capacity = sizes.capacity;
  ordinals = sizes.ordinals;
  base = base;
  at_open = at_open;
  files = files;
}

-- where they may not, and where they may
abbrev pub size_of : Sizes → ℕ → ℕ → PathSize
size_of sizes base at_open = sized_for false sizes base at_open

abbrev pub filing_size_of : Sizes → ℕ → ℕ → PathSize
filing_size_of sizes base at_open = sized_for true sizes base at_open

-- it shows what it did: what is lasting, what is kept, and whether it has stopped
abbrev pub ShowsAsBefore : Holding → Holding → Type 0
ShowsAsBefore before now = lasting_of now ≡ lasting_of before

module _ {K : Type 0} where
  -- the opener of a table with this id and these sizes, which has handed out no seat
  pub record IsUnused (id : TableId) (size : PathSize) (o : Opener K) : Type 0 where
    pub table : o.seat.table_id ≡ id
    pub size_is : o.seat.me.0.size ≡ size
    pub none_made : o.made ≡ 0

  abbrev pub numbers_of : List (PathSeat K) → List ℕ
  numbers_of seats = map (λ (s : PathSeat K). s.member.number) seats

  -- a seat of the path that has made no step
  pub record IsNewSeat (id : TableId) (size : PathSize) (s : PathSeat K) : Type 0 where
    pub of_path : IsOf id size s.member
    pub unused : view_of s.member ≡ new_seat s.member.number size

  -- They are one new seat for each of the first writers, in order.
  pub record AreNew (id : TableId) (size : PathSize) (count : ℕ) (seats : List (PathSeat K)) :
      Type 0 where
    pub each : All (IsNewSeat id size) seats
    pub numbers : numbers_of seats ≡ range_with_len 0 count
