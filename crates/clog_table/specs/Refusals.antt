-- What bytes decode to: the table file whose one spelling they are, or the first rule that they
-- break.
use Rattle.std.specs.Prelude.{◌≡◌, ◌≢◌, ℕ, ◌+◌, ◌<◌, ◌≤◌, ◌⊎◌, List, [], ◌∷◌, ◌++◌, length, take}
use Rattle.std.specs.Prelude.{Result, Ok, Err, ⊤}
use Rattle.std.specs.Borrow.{Bor}
use Rattle.clog_base.specs.declared.cell.Cell.{Cell}
use Rattle.clog_base.specs.declared.cell.CellKey.{CellKey}
use Rattle.clog_base.specs.declared.cell.Table.{Table}
use Rattle.clog_fields.specs.Refusals.{place}
use Rattle.clog_cells.specs.Merge.{AreInOrder}
use Rattle.clog_table.specs.declared.table_file.TableFile.{TableFile}
use Rattle.clog_table.specs.declared.fault.TableFault.{TableFault}
use Rattle.clog_table.specs.declared.fault.TableFault.TheVariants.{
  Short,
  Version,
  HeadCheck,
  Table as OtherTable,
  Interval,
  Cell as NoCell,
  Order,
  CellsCheck,
  Trailing,
  OutOfMemory,
}
use Rattle.clog_table.specs.Format.{cells_bytes, check_bytes, behind_head, table_file_bytes}
use Rattle.clog_table.specs.Limits.{IsTableFile}
use Rattle.clog_table.specs.Heads.{RefusesHead, BehindHead}
use Rattle.clog_table.specs.Cells.{HasCells, BeginsWithNoCell, BeginsWithCell}

-- ---- of the cells: the bytes are those behind the head

-- Behind the longest front of well-formed cells one more is wanted, and none stands there.
pub record HasNoCell (table : Table) (count : ℕ) (bytes rest : List ℕ) : Type 0 where
  pub cells : List (CellKey × Cell)
  pub front : HasCells table count bytes cells rest
  pub wanted : length cells < count
  pub none : BeginsWithNoCell table rest

-- Behind well-formed cells one more is wanted and stands there, but not above the one before it.
pub record HasDisorder (table : Table) (count : ℕ) (bytes rest : List ℕ) : Type 0 where
  pub cells : List (CellKey × Cell)
  pub next : CellKey × Cell
  pub behind : List ℕ
  pub front : HasCells table count bytes cells rest
  pub wanted : length cells < count
  pub found : BeginsWithCell table rest next behind
  pub disordered : ¬ AreInOrder (cells ++ next ∷ [])

-- all cells are well formed, and behind them stands this rest
pub record HasAllCells (table : Table) (count : ℕ) (bytes : List ℕ)
    (cells : List (CellKey × Cell)) (rest : List ℕ) : Type 0 where
  pub front : HasCells table count bytes cells rest
  pub all : length cells ≡ count

-- the check of the cells does not fit behind them
pub record IsCutInCheck (table : Table) (count : ℕ) (bytes : List ℕ) : Type 0 where
  pub cells : List (CellKey × Cell)
  pub rest : List ℕ
  pub whole : HasAllCells table count bytes cells rest
  pub short : length rest < 4

-- the four bytes behind the cells are not their check
pub record HasWrongCellsCheck (table : Table) (count : ℕ) (bytes : List ℕ) : Type 0 where
  pub cells : List (CellKey × Cell)
  pub rest : List ℕ
  pub whole : HasAllCells table count bytes cells rest
  pub long : 4 ≤ length rest
  pub wrong : take 4 rest ≢ check_bytes (cells_bytes cells)

-- behind the cells stands their check, and more
pub record HasTrailing (table : Table) (count : ℕ) (bytes rest : List ℕ) : Type 0 where
  pub cells : List (CellKey × Cell)
  pub whole : HasAllCells table count bytes cells rest
  pub right : take 4 rest ≡ check_bytes (cells_bytes cells)
  pub more : 4 < length rest

-- Why not all cells are read. Offsets are those of the whole file.
abbrev pub RefusesCells : List ℕ → Table → ℕ → List ℕ → TableFault → Type 0
RefusesCells file table count bytes (NoCell at) =
    (rest : List ℕ) × HasNoCell table count bytes rest × (at ≡ place (length file) rest)
RefusesCells file table count bytes (Order at) =
    (rest : List ℕ) × HasDisorder table count bytes rest × (at ≡ place (length file) rest)
RefusesCells file table count bytes OutOfMemory = ⊤
RefusesCells file table count bytes Short = ⊥
RefusesCells file table count bytes (Version n) = ⊥
RefusesCells file table count bytes HeadCheck = ⊥
RefusesCells file table count bytes OtherTable = ⊥
RefusesCells file table count bytes Interval = ⊥
RefusesCells file table count bytes CellsCheck = ⊥
RefusesCells file table count bytes (Trailing at) = ⊥

-- ---- of the file

-- the bytes are the spelling of this table's file
pub record IsFileOf (table : Table) (bytes : List ℕ) (file : TableFile) : Type 0 where
  pub is_file : IsTableFile file
  pub same_table : file.table ≡ table
  pub spelled : bytes ≡ table_file_bytes file

-- the first rule that bytes break
abbrev pub Refuses : Table → List ℕ → TableFault → Type 0
Refuses table bytes Short =
    RefusesHead table bytes Short ⊎ BehindHead table bytes (IsCutInCheck table)
Refuses table bytes (Version n) = RefusesHead table bytes (Version n)
Refuses table bytes HeadCheck = RefusesHead table bytes HeadCheck
Refuses table bytes OtherTable = RefusesHead table bytes OtherTable
Refuses table bytes Interval = RefusesHead table bytes Interval
Refuses table bytes (NoCell at) =
    BehindHead table bytes (λ count behind. RefusesCells bytes table count behind (NoCell at))
Refuses table bytes (Order at) =
    BehindHead table bytes (λ count behind. RefusesCells bytes table count behind (Order at))
Refuses table bytes CellsCheck = BehindHead table bytes (HasWrongCellsCheck table)
Refuses table bytes (Trailing at) = BehindHead table bytes (λ count behind. (rest : List ℕ)
    × HasTrailing table count behind rest × (at ≡ place (length bytes) rest + 4))
Refuses table bytes OutOfMemory = ⊤

abbrev pub Decodes : Table → List ℕ → Result TableFile TableFault → Type 0
Decodes table bytes (Ok file) = IsFileOf table bytes file
Decodes table bytes (Err fault) = Refuses table bytes fault

-- the file, or want of memory
abbrev pub IsUnlessMemory : TableFile → Result TableFile TableFault → Type 0
IsUnlessMemory file decoded = (decoded ≡ Ok file) ⊎ (decoded ≡ Err OutOfMemory)

-- the fault, or want of memory
abbrev pub IsFaultUnlessMemory : TableFault → Result TableFile TableFault → Type 0
IsFaultUnlessMemory fault decoded = (decoded ≡ Err fault) ⊎ (decoded ≡ Err OutOfMemory)

-- ---- of the steps of decoding

abbrev pub CellsGive : List ℕ → Table → ℕ → List ℕ
    → Result (List (CellKey × Cell) × Bor (List ℕ)) TableFault → Type 0
CellsGive file table count bytes (Ok x) =
    HasCells table count bytes x.0 x.1.now × (length x.0 ≡ count)
CellsGive file table count bytes (Err fault) = RefusesCells file table count bytes fault

-- a cell at the front joins those before it
pub record IsTaken (table : Table) (old new : List (CellKey × Cell)) (bytes rest : List ℕ) : Type
    0 where
  pub next : CellKey × Cell
  pub found : BeginsWithCell table bytes next rest
  pub joined : new ≡ old ++ next ∷ []
  pub ordered : AreInOrder new

-- a cell at the front, but not above those before it
pub record IsDisordered (table : Table) (old : List (CellKey × Cell)) (bytes : List ℕ) : Type 0
  where
    pub next : CellKey × Cell
    pub behind : List ℕ
    pub found : BeginsWithCell table bytes next behind
    pub disordered : ¬ AreInOrder (old ++ next ∷ [])

-- why the cell at a place is not taken
abbrev pub RefusesCell : Table → ℕ → List (CellKey × Cell) → List ℕ → TableFault → Type 0
RefusesCell table offset old bytes (NoCell at) = (at ≡ offset) × BeginsWithNoCell table bytes
RefusesCell table offset old bytes (Order at) = (at ≡ offset) × IsDisordered table old bytes
RefusesCell table offset old bytes OutOfMemory = ⊤
RefusesCell table offset old bytes Short = ⊥
RefusesCell table offset old bytes (Version n) = ⊥
RefusesCell table offset old bytes HeadCheck = ⊥
RefusesCell table offset old bytes OtherTable = ⊥
RefusesCell table offset old bytes Interval = ⊥
RefusesCell table offset old bytes CellsCheck = ⊥
RefusesCell table offset old bytes (Trailing at) = ⊥

abbrev pub TakesCell : Table → ℕ → List (CellKey × Cell) → List (CellKey × Cell) → List ℕ
    → Result (Bor (List ℕ)) TableFault → Type 0
TakesCell table offset old new bytes (Ok rest) = IsTaken table old new bytes rest.now
TakesCell table offset old new bytes (Err fault) = RefusesCell table offset old bytes fault

-- the bytes between the head and a rest
abbrev pub cells_text : List ℕ → List ℕ → List ℕ
cells_text bytes rest = behind_head (take (place (length bytes) rest) bytes)

-- why what stands behind the cells is not their check alone
abbrev pub RefusesEnd : List ℕ → List ℕ → ℕ → TableFault → Type 0
RefusesEnd cells rest offset Short = length rest < 4
RefusesEnd cells rest offset CellsCheck = (4 ≤ length rest) × (take 4 rest ≢ check_bytes cells)
RefusesEnd cells rest offset (Trailing at) =
    (take 4 rest ≡ check_bytes cells) × (4 < length rest) × (at ≡ offset + 4)
RefusesEnd cells rest offset (NoCell at) = ⊥
RefusesEnd cells rest offset (Order at) = ⊥
RefusesEnd cells rest offset OutOfMemory = ⊥
RefusesEnd cells rest offset (Version n) = ⊥
RefusesEnd cells rest offset HeadCheck = ⊥
RefusesEnd cells rest offset OtherTable = ⊥
RefusesEnd cells rest offset Interval = ⊥

abbrev pub EndGives : List ℕ → List ℕ → ℕ → Result Unit TableFault → Type 0
EndGives cells rest offset (Ok done) = rest ≡ check_bytes cells
EndGives cells rest offset (Err fault) = RefusesEnd cells rest offset fault
