-- Reading cells without keeping them: of those before only the last one is compared.
use Rattle.std.specs.Prelude.{◌≡◌, ◌++◌, ◌∷◌, [], ℕ, List, length, Option, Some, None}
use Rattle.std.specs.Prelude.{Result, Ok, Err, ⊤}
use Rattle.std.specs.Borrow.{Bor}
use Rattle.std.specs.declared.cmp.Ordering.{Ordering}
use Rattle.std.specs.declared.cmp.Ordering.TheVariants.{Less}
use Rattle.std.specs.Ordering.{nat_cmp, ordering_then}
use Rattle.std.specs.Cmp.Lexicographic.{slice_cmp}
use Rattle.clog_base.specs.declared.cell.Cell.{Cell}
use Rattle.clog_base.specs.declared.cell.CellKey.{CellKey}
use Rattle.clog_base.specs.declared.cell.Table.{Table}
use Rattle.clog_cells.specs.Merge.{AreInOrder}
use Rattle.clog_table.specs.declared.head.Head.{Head}
use Rattle.clog_table.specs.declared.raw_cell.RawCell.{RawCell}
use Rattle.clog_table.specs.declared.table_file.TableFile.{TableFile}
use Rattle.clog_table.specs.declared.fault.TableFault.{TableFault}
use Rattle.clog_table.specs.Format.{head_of}
use Rattle.clog_table.specs.Reading.{Fields}
use Rattle.clog_table.specs.RawFields.{fields_of, pair_of}
use Rattle.clog_table.specs.Cells.{HasCells}
use Rattle.clog_table.specs.Refusals.{IsFileOf, Refuses, IsTaken, RefusesCell, RefusesCells}

abbrev pub last_of : Option RawCell → Option Fields
last_of None = None
last_of (Some cell) = Some (fields_of cell)

-- by key, then by column: of cells of one table
abbrev pub fields_cmp : Fields → Fields → Ordering
fields_cmp a b = ordering_then (slice_cmp nat_cmp a.0 b.0) (slice_cmp nat_cmp a.1.0 b.1.0)

abbrev pub StandsAbove : Option Fields → Fields → Type 0
StandsAbove None x = ⊤
StandsAbove (Some last) x = fields_cmp last x ≡ Less

-- the cells end with these fields, or are none
abbrev pub EndsWith : Table → List (CellKey × Cell) → Option Fields → Type 0
EndsWith table cells None = cells ≡ []
EndsWith table cells (Some last) =
    (before : List (CellKey × Cell)) × (cells ≡ before ++ pair_of table last ∷ [])

-- what the next cell is behind any cells of any table that end so
abbrev pub NextCell : Option Fields → ℕ → List ℕ → Result (RawCell × Bor (List ℕ)) TableFault
    → Type 0
NextCell last at bytes (Ok x) = (table : Table) (cells : List (CellKey × Cell)) → AreInOrder cells
    → EndsWith table cells last
    → IsTaken table cells (cells ++ pair_of table (fields_of x.0) ∷ []) bytes x.1.now
NextCell last at bytes (Err fault) = (table : Table) (cells : List (CellKey × Cell))
    → AreInOrder cells → EndsWith table cells last → RefusesCell table at cells bytes fault

-- so many cells are read, and end so
pub record HasReadCells (table : Table) (count : ℕ) (bytes : List ℕ) (number : ℕ)
    (last : Option Fields) (rest : List ℕ) : Type 0 where
  pub cells : List (CellKey × Cell)
  pub front : HasCells table count bytes cells rest
  pub ends : EndsWith table cells last
  pub count_is : length cells ≡ number

abbrev pub ReadsAll : List ℕ → Table → ℕ → List ℕ → Result (Bor (List ℕ)) TableFault → Type 0
ReadsAll file table count bytes (Ok rest) =
    (cells : List (CellKey × Cell)) × HasCells table count bytes cells rest.now
    × (length cells ≡ count)
ReadsAll file table count bytes (Err fault) = RefusesCells file table count bytes fault

-- the head of the file that the bytes spell, or why they spell none
abbrev pub Checks : Table → List ℕ → Result Head TableFault → Type 0
Checks table bytes (Ok head) =
    (file : TableFile) × IsFileOf table bytes file × (head ≡ head_of file)
Checks table bytes (Err fault) = Refuses table bytes fault
