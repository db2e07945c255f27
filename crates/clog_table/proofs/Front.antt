-- The front of a file's cells grows by one cell at a time.
use Rattle.std.proofs.Common.{
  ◌≡◌,
  ℕ,
  ◌+◌,
  ◌<◌,
  ◌≤◌,
  List,
  [],
  ◌∷◌,
  ◌++◌,
  length,
  refl,
  sym,
  ap,
  subst,
  ◌∙◌,
  append_assoc,
  arith,
  length-append,
}
use Rattle.std.specs.List.{AllByRecursion}
use Rattle.std.proofs.lemmas.List.{append-nil}
use Rattle.clog_cells.specs.Merge.{AreInOrder}
use Rattle.clog_base.specs.declared.cell.Cell.{Cell}
use Rattle.clog_base.specs.declared.cell.CellKey.{CellKey}
use Rattle.clog_base.specs.declared.cell.Table.{Table}
use Rattle.clog_table.specs.declared.fault.TableFault.{TableFault}
use Rattle.clog_table.specs.declared.fault.TableFault.TheVariants.{
  Short,
  Version,
  HeadCheck,
  Table as OtherTable,
  Interval,
  Cell as NoCell,
  Order,
  CellsCheck,
  Trailing,
  OutOfMemory,
}
use Rattle.clog_table.specs.Format.{cell_bytes, cells_bytes}
use Rattle.clog_table.specs.Limits.{IsStoredCell}
use Rattle.clog_table.specs.Cells.{HasCells}
use Rattle.clog_fields.specs.Refusals.{place}
use Rattle.clog_table.specs.Refusals.{IsTaken, RefusesCell, RefusesCells}
use Rattle.clog_table.proofs.Keys.{Pairs}
use Rattle.clog_cells.proofs.InOrder.{nothing_in_order}

-- at first no cell is read
pub no_cells : (table : Table) (count : ℕ) (bytes : List ℕ) → HasCells table count bytes [] bytes
no_cells table count bytes = record {
  spelled = refl;
  stored = tt;
  ordered = nothing_in_order;
  few = omega arith;
}

cells_bytes-push : (cells : Pairs) (next : CellKey × Cell) (behind : List ℕ)
    → cells_bytes cells ++ (cell_bytes next ++ behind) ≡ cells_bytes (cells ++ next ∷ []) ++ behind
cells_bytes-push [] next behind = ap (λ (l : List ℕ). l ++ behind)
    (sym (append-nil (cell_bytes next)))
cells_bytes-push (cell ∷ cells) next behind =
    append_assoc (cell_bytes cell) (cells_bytes cells) (cell_bytes next ++ behind)
    ∙ ap (λ (l : List ℕ). cell_bytes cell ++ l) (cells_bytes-push cells next behind)
    ∙ sym (append_assoc (cell_bytes cell) (cells_bytes (cells ++ next ∷ [])) behind)

stored_push : (table : Table) (cells : Pairs) (next : CellKey × Cell)
    → AllByRecursion (IsStoredCell table) cells → IsStoredCell table next
    → AllByRecursion (IsStoredCell table) (cells ++ next ∷ [])
stored_push table [] next h here = (here, tt)
stored_push table (cell ∷ cells) next h here = (h.0, stored_push table cells next h.1 here)

pub length_push : (cells : Pairs) (next : CellKey × Cell)
    → length (cells ++ next ∷ []) ≡ length cells + 1
length_push cells next = length-append cells (next ∷ [])

-- a cell that is taken joins the front
pub one_more : (table : Table) (count : ℕ) (bytes : List ℕ) (cells new : Pairs)
    (rest behind : List ℕ)
    → HasCells table count bytes cells rest → length cells < count
    → IsTaken table cells new rest behind → HasCells table count bytes new behind
one_more table count bytes cells new rest behind front wanted taken =
    let all = cells ++ taken.next ∷ [] in
    let few : length all ≤ count = omega (arith, length_push cells taken.next) in
    let ordered = taken.ordered in
    subst (λ (l : Pairs). HasCells table count bytes l behind) (sym taken.joined) (record {
      spelled = front.spelled ∙ ap (λ (l : List ℕ). cells_bytes cells ++ l) taken.found.spelled
          ∙ cells_bytes-push cells taken.next behind;
      stored = stored_push table cells taken.next front.stored taken.found.stored;
      ordered = subst AreInOrder taken.joined ordered;
      few = few;
    })

pub one_more-count : (table : Table) (cells new : Pairs) (rest behind : List ℕ)
    → IsTaken table cells new rest behind → length new ≡ length cells + 1
one_more-count table cells new rest behind taken =
    ap (λ (l : Pairs). length l) taken.joined ∙ length_push cells taken.next

-- the rest is no longer than the whole
pub rest_within : (table : Table) (count : ℕ) (bytes : List ℕ) (cells : Pairs) (rest : List ℕ)
    → HasCells table count bytes cells rest → length rest ≤ length bytes
rest_within table count bytes cells rest front =
    let e : length bytes ≡ length (cells_bytes cells) + length rest =
    ap (λ (l : List ℕ). length l) front.spelled ∙ length-append (cells_bytes cells) rest in
    omega (arith, e)

-- why the next cell is refused is why the cells are
pub refused_here : (file : List ℕ) (table : Table) (count : ℕ) (bytes : List ℕ) (cells : Pairs)
    (rest : List ℕ) (fault : TableFault)
    → HasCells table count bytes cells rest → length cells < count
    → RefusesCell table (place (length file) rest) cells rest fault
    → RefusesCells file table count bytes fault
refused_here file table count bytes cells rest (NoCell at) front wanted h = (
  rest,
  record { cells = cells; front = front; wanted = wanted; none = h.1 },
  h.0,
)
refused_here file table count bytes cells rest (Order at) front wanted h = (
  rest,
  record {
    cells = cells;
    next = h.1.next;
    behind = h.1.behind;
    front = front;
    wanted = wanted;
    found = h.1.found;
    disordered = h.1.disordered;
  },
  h.0,
)
refused_here file table count bytes cells rest OutOfMemory front wanted h = tt
refused_here file table count bytes cells rest Short front wanted h = absurd h
refused_here file table count bytes cells rest (Version n) front wanted h = absurd h
refused_here file table count bytes cells rest HeadCheck front wanted h = absurd h
refused_here file table count bytes cells rest OtherTable front wanted h = absurd h
refused_here file table count bytes cells rest Interval front wanted h = absurd h
refused_here file table count bytes cells rest CellsCheck front wanted h = absurd h
refused_here file table count bytes cells rest (Trailing at) front wanted h = absurd h
