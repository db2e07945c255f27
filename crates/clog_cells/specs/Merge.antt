-- Which of two cells counts, and what a list of cells comes to.
pub use Rattle.clog_base.specs.CellKeys.{key_cmp}
use Rattle.std.specs.Prelude.{◌≡◌, ◌↔◌, ◌<◌, ◌^◌, ℕ, List, ◌++◌, Bool, false, length}
use Rattle.std.specs.Prelude.{Option, Some, None, Contains, ◌==◌}
use Rattle.std.specs.List.{filter}
use Rattle.std.specs.declared.cmp.Ordering.{Ordering}
use Rattle.std.specs.Ordering.{nat_cmp, int_cmp, ordering_then, is_gt}
use Rattle.std.specs.Cmp.Lexicographic.{slice_cmp}
use Rattle.std.specs.List.Sorted.{IsStrictlySortedBy}
use Rattle.std.specs.Map.{lookup, keys_of}
use Rattle.std.specs.BTreeMap.{is_at}
use Rattle.clog_base.specs.declared.cell.Kind.{Kind}
use Rattle.clog_base.specs.declared.cell.Kind.TheVariants.{Deletion, Live}
use Rattle.clog_base.specs.declared.cell.Cell.{Cell}
use Rattle.clog_base.specs.declared.cell.CellKey.{CellKey}
use Rattle.clog_base.specs.declared.cell.Table.{Table}

-- a deletion is greater
abbrev pub kind_rank : Kind → ℕ
kind_rank Live = 0
kind_rank Deletion = 1

-- by timestamp, then by kind, then by the value's bytes, unsigned
abbrev pub cell_cmp : Cell → Cell → Ordering
cell_cmp a b =
    ordering_then (int_cmp a.ts b.ts)
    (ordering_then (nat_cmp (kind_rank a.kind) (kind_rank b.kind))
    (slice_cmp nat_cmp a.value b.value))

abbrev pub is_newer : Cell → Cell → Bool
is_newer a b = is_gt (cell_cmp a b)

-- by key, and of one key the oldest cell first
abbrev pub pair_cmp : CellKey × Cell → CellKey × Cell → Ordering
pair_cmp a b = ordering_then (key_cmp a.0 b.0) (cell_cmp a.1 b.1)

-- one of the key's cells among those that have P, and none of them is newer
pub record IsNewestIn (P : CellKey × Cell → Type 0) (key : CellKey) (cell : Cell) : Type 0 where
  pub listed : P (key, cell)
  pub greatest : (other : Cell) → P (key, other) → is_newer other cell ≡ false

-- the newest of the key's cells among those that have P, and none exactly where the key has none
abbrev pub IsNewestAmong : (CellKey × Cell → Type 0) → CellKey → Option Cell → Type 0
IsNewestAmong P key None = (cell : Cell) → ¬ P (key, cell)
IsNewestAmong P key (Some cell) = IsNewestIn P key cell

-- the same among the cells of a list
abbrev pub IsNewestOf : List (CellKey × Cell) → CellKey → Cell → Type 0
IsNewestOf pairs key cell = IsNewestIn (Contains pairs) key cell

abbrev pub IsNewestAt : List (CellKey × Cell) → CellKey → Option Cell → Type 0
IsNewestAt pairs key found = IsNewestAmong (Contains pairs) key found

-- what rows have at a key: the rows as a finite map
abbrev pub found_at : List (CellKey × Cell) → CellKey → Option Cell
found_at rows key = lookup (is_at (key_cmp key)) rows

-- each key once, in order
abbrev pub AreInOrder : List (CellKey × Cell) → Type 0
AreInOrder rows = IsStrictlySortedBy key_cmp (keys_of rows)

-- The merge of all cells that have P under their keys: the rows stand in strictly ascending order
-- of their keys, and have at each key the newest of the key's cells that have P, and nothing else.
pub record IsMergeOf (P : CellKey × Cell → Type 0) (rows : List (CellKey × Cell)) : Type 0 where
  pub ordered : AreInOrder rows
  pub newest : (key : CellKey) → IsNewestAmong P key (found_at rows key)

-- the merge of a list of cells
abbrev pub IsMerge : List (CellKey × Cell) → List (CellKey × Cell) → Type 0
IsMerge pairs rows = IsMergeOf (Contains pairs) rows

-- two lists with the same members, each as often and wherever it stands
abbrev pub HaveSameMembers : List (CellKey × Cell) → List (CellKey × Cell) → Type 0
HaveSameMembers pairs others = (pair : CellKey × Cell) → Contains pairs pair ↔ Contains others pair

-- the cells of one table, in their order
abbrev pub is_of_table : Table → CellKey → Bool
is_of_table table key = key.table.0 == table.0

abbrev pub part_on : Table → List (CellKey × Cell) → List (CellKey × Cell)
part_on table pairs = filter (λ pair. is_of_table table pair.0) pairs

-- new rows are the old ones merged with a first part of the others
pub record MergesPart (old others new : List (CellKey × Cell)) : Type 0 where
  pub part : List (CellKey × Cell)
  pub rest : List (CellKey × Cell)
  pub parts : others ≡ part ++ rest
  pub merged : IsMerge (old ++ part) new

-- what a map keeps: each key once and in order, and at most 4294967295 cells
pub record IsCellMap (rows : List (CellKey × Cell)) : Type 0 where
  pub ordered : AreInOrder rows
  pub few : length rows < 2 ^ 32
