-- The head of a table file, and which rule bytes that have none break first.
use Rattle.std.specs.Prelude.{◌≡◌, ◌≢◌, ℕ, ◌<◌, ◌≤◌, ◌^◌, List, length, take, drop, slice_index}
use Rattle.std.specs.Prelude.{Result, Ok, Err}
use Rattle.std.specs.Int.{w32, w64, to_be_bytes, from_be_bytes}
use Rattle.clog_spec.specs.Sizes.{most_tables}
use Rattle.clog_base.specs.declared.position.Position.{Position}
use Rattle.clog_base.specs.declared.cell.Table.{Table}
use Rattle.clog_table.specs.declared.head.Head.{Head}
use Rattle.clog_table.specs.declared.fault.TableFault.{TableFault}
use Rattle.clog_table.specs.declared.fault.TableFault.TheVariants.{
  Short,
  Version,
  HeadCheck,
  Table as OtherTable,
  Interval,
  Cell,
  Order,
  CellsCheck,
  Trailing,
  OutOfMemory,
}
use Rattle.clog_table.specs.Format.{
  head_bytes,
  check_bytes,
  head_size,
  head_front_size,
  behind_head,
}
use Rattle.clog_table.specs.Limits.{IsUpTo, IsThisTable, IsStoredPosition}

-- the numbers of a head fit their bytes
pub record IsStoredHead (head : Head) : Type 0 where
  pub table : head.table.0 < 256
  pub lower : IsStoredPosition head.lower
  pub upper : IsStoredPosition head.upper
  pub count : head.count < 2 ^ 32

-- the bytes begin with this head
pub record BeginsWithHead (bytes : List ℕ) (head : Head) : Type 0 where
  pub stored : IsStoredHead head
  pub spelled : take head_size bytes ≡ head_bytes head

-- the bytes begin with the head of a file of this table, which is below 16
pub record HasHead (table : Table) (bytes : List ℕ) (head : Head) : Type 0 where
  pub begins : BeginsWithHead bytes head
  pub known : head.table.0 < most_tables
  pub same_table : head.table ≡ table
  pub interval : IsUpTo head.lower head.upper

-- The bytes begin with the head of a file of this table, and this is so of the number of cells that
-- it counts and the bytes behind it. (All that is said of cells is said of these two.)
pub record BehindHead (table : Table) (bytes : List ℕ) (Says : ℕ → List ℕ → Type 0) : Type 0 where
  pub head : Head
  pub begins : HasHead table bytes head
  pub says : Says head.count (behind_head bytes)

-- the version, four bytes, is n
abbrev pub HasVersion : ℕ → List ℕ → Type 0
HasVersion n bytes = take 4 bytes ≡ to_be_bytes w32 n

pub record HasOtherVersion (n : ℕ) (bytes : List ℕ) : Type 0 where
  pub long : head_size ≤ length bytes
  pub fits : n < 2 ^ 32
  pub version : HasVersion n bytes
  pub other : n ≢ 1

-- of version 1, but the check of what stands before it is wrong
pub record HasWrongHeadCheck (bytes : List ℕ) : Type 0 where
  pub long : head_size ≤ length bytes
  pub version : HasVersion 1 bytes
  pub wrong : take 4 (drop head_front_size bytes) ≢ check_bytes (take head_front_size bytes)

-- a head, but of a table above 15, or of another one
pub record HasOtherTable (table : Table) (bytes : List ℕ) : Type 0 where
  pub head : Head
  pub begins : BeginsWithHead bytes head
  pub other : ¬ IsThisTable head.table table

-- a head of this table, below 16, but its interval is not in order
pub record HasOtherInterval (table : Table) (bytes : List ℕ) : Type 0 where
  pub head : Head
  pub begins : BeginsWithHead bytes head
  pub known : head.table.0 < most_tables
  pub same_table : head.table ≡ table
  pub disordered : ¬ IsUpTo head.lower head.upper

-- the rule that the bytes of the head break
abbrev pub RefusesHead : Table → List ℕ → TableFault → Type 0
RefusesHead table bytes Short = length bytes < head_size
RefusesHead table bytes (Version n) = HasOtherVersion n bytes
RefusesHead table bytes HeadCheck = HasWrongHeadCheck bytes
RefusesHead table bytes OtherTable = HasOtherTable table bytes
RefusesHead table bytes Interval = HasOtherInterval table bytes
RefusesHead table bytes (Cell at) = ⊥
RefusesHead table bytes (Order at) = ⊥
RefusesHead table bytes CellsCheck = ⊥
RefusesHead table bytes (Trailing at) = ⊥
RefusesHead table bytes OutOfMemory = ⊥

abbrev pub HeadGives : Table → List ℕ → Result Head TableFault → Type 0
HeadGives table bytes (Ok head) = HasHead table bytes head
HeadGives table bytes (Err fault) = RefusesHead table bytes fault

-- what the numbers at the head's offsets are
abbrev pub position_at : List ℕ → Position
position_at bytes = record {
  id = from_be_bytes w64 bytes;
  offset = from_be_bytes w32
      (drop 8 bytes);
}

abbrev pub head_at : List ℕ → Head
head_at bytes = record {
  table = record { 0 = slice_index bytes 4 };
  lower = position_at (drop 5 bytes);
  upper = position_at (drop 17 bytes);
  count = from_be_bytes w32 (drop 29 bytes);
}
