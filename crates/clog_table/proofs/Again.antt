-- A file's spelling decodes to that file alone.
use Rattle.std.proofs.Common.{
  ◌≡◌,
  ℕ,
  ◌+◌,
  ◌<◌,
  ◌≤◌,
  inl,
  inr,
  List,
  [],
  ◌∷◌,
  ◌++◌,
  length,
  take,
  drop,
  Result,
  Ok,
  Err,
  refl,
  sym,
  ap,
  subst,
  ◌∙◌,
  append_assoc,
  arith,
  length-append,
}
use Rattle.std.specs.Prelude.{IfOk}
use Rattle.std.specs.List.{AllByRecursion}
use Rattle.std.specs.Int.{w32, to_be_bytes}
use Rattle.std.proofs.lemmas.Nat.{from_be_bytes-to_be_bytes_4, from_be_bytes-to_be_bytes_8}
use Rattle.std.proofs.lemmas.List.{append-nil}
use Rattle.clog_base.specs.declared.cell.Cell.{Cell}
use Rattle.clog_base.specs.declared.cell.CellKey.{CellKey}
use Rattle.clog_base.specs.declared.cell.Table.{Table}
use Rattle.clog_base.specs.declared.fault.PayloadFault.{PayloadFault}
use Rattle.clog_cells.specs.Merge.{AreInOrder}
use Rattle.clog_table.specs.declared.head.Head.{Head}
use Rattle.clog_table.specs.declared.table_file.TableFile.{TableFile}
use Rattle.clog_table.specs.declared.fault.TableFault.{TableFault}
use Rattle.clog_table.specs.declared.fault.TableFault.TheVariants.{
  Short,
  Version,
  HeadCheck,
  Table as OtherTable,
  Interval,
  Cell as NoCell,
  Order,
  CellsCheck,
  Trailing,
  OutOfMemory,
}
use Rattle.clog_table.specs.Format.{
  cell_bytes,
  cells_bytes,
  check_bytes,
  head_bytes,
  head_size,
  behind_head,
  head_of,
  head_front_size,
}
use Rattle.clog_table.specs.Limits.{IsUpTo, IsThisTable, IsStoredCell, IsWithinLimits, IsWritable}
use Rattle.clog_table.specs.Reading.{Fields, cell_at}
use Rattle.clog_table.specs.RawFields.{pair_of}
use Rattle.clog_table.specs.Heads.{BeginsWithHead, HasHead, IsStoredHead, head_at}
use Rattle.clog_table.specs.Cells.{HasCells, BeginsWithNoCell, BeginsWithCell}
use Rattle.clog_table.specs.Refusals.{IsFileOf, HasAllCells, Refuses, Decodes, IsUnlessMemory}
use Rattle.clog_fields.proofs.Values.{stored_size}
use Rattle.clog_table.proofs.Numbers.{four_once}
use Rattle.clog_table.proofs.HeadParts.{head_is_long}
use Rattle.clog_table.proofs.Grammar.{parts, cell_again, pair_of-parts}
use Rattle.clog_table.proofs.Keys.{Pairs}
use Rattle.clog_cells.proofs.InOrder.{front_in_order}

-- ---- one head
pub head_again : (head : Head) → IsStoredHead head → head_at (head_bytes head) ≡ head
head_again head h =
    let lower_id = from_be_bytes-to_be_bytes_8 head.lower.id h.lower.id in
    let lower_offset = from_be_bytes-to_be_bytes_4 head.lower.offset h.lower.offset in
    let upper_id = from_be_bytes-to_be_bytes_8 head.upper.id h.upper.id in
    let upper_offset = from_be_bytes-to_be_bytes_4 head.upper.offset h.upper.offset in
    let count = from_be_bytes-to_be_bytes_4 head.count h.count in
    λ i. record {
      table = head.table;
      lower = record { id = lower_id i; offset = lower_offset i };
      upper = record { id = upper_id i; offset = upper_offset i };
      count = count i;
    }

pub one_head : (bytes : List ℕ) (a b : Head) → BeginsWithHead bytes a → BeginsWithHead bytes b
    → a ≡ b
one_head bytes a b p q =
    sym (head_again a p.stored) ∙ ap head_at (sym p.spelled ∙ q.spelled) ∙ head_again b q.stored

-- ---- one list of cells
same_parts : (a b : Fields) (x y : List ℕ)
    → ◌≡◌ {A = Result (Fields × List ℕ) PayloadFault} (Ok (a, x)) (Ok (b, y)) → (a ≡ b) × (x ≡ y)
same_parts a b x y e =
    let pairs : ◌≡◌ {A = Fields × List ℕ} (a, x) (b, y) = cc in
    (ap (λ (p : Fields × List ℕ). p.0) pairs, ap (λ (p : Fields × List ℕ). p.1) pairs)

pub one_cell : (table : Table) (a b : CellKey × Cell) (x y : List ℕ) → IsStoredCell table a
    → IsStoredCell table b → cell_bytes a ++ x ≡ cell_bytes b ++ y → (a ≡ b) × (x ≡ y)
one_cell table a b x y p q e =
    let both : ◌≡◌ {A = Result (Fields × List ℕ) PayloadFault} (Ok (parts a, x)) (Ok (parts b, y)) =
    sym (cell_again 0 table a x p) ∙ ap (cell_at 0) e ∙ cell_again 0 table b y q in
    let same = same_parts (parts a) (parts b) x y both in
    (sym (pair_of-parts table a p) ∙ ap (pair_of table) same.0 ∙ pair_of-parts table b q, same.1)

-- the cells are a front and later ones, and the rest behind the front spells these
pub record IsFrontOfCells (table : Table) (cells front : Pairs) (tail rest : List ℕ) : Type 0 where
  pub later : Pairs
  pub joined : cells ≡ front ++ later
  pub spelled : rest ≡ cells_bytes later ++ tail
  pub stored : AllByRecursion (IsStoredCell table) later

pub front_of : (table : Table) (cells front : Pairs) (tail rest : List ℕ)
    → AllByRecursion (IsStoredCell table) cells → AllByRecursion (IsStoredCell table) front
    → length front ≤ length cells → cells_bytes cells ++ tail ≡ cells_bytes front ++ rest
    → IsFrontOfCells table cells front tail rest
front_of table cells [] tail rest p q few e =
    record { later = cells; joined = refl; spelled = sym e; stored = p }
front_of table [] (f ∷ fs) tail rest p q few e = absurd (omega arith)
front_of table (c ∷ cs) (f ∷ fs) tail rest p q few e =
    let few' : length fs ≤ length cs = omega arith in
    let first = one_cell table c f (cells_bytes cs ++ tail) (cells_bytes fs ++ rest) p.0 q.0
    (sym (append_assoc (cell_bytes c) (cells_bytes cs) tail) ∙ e
    ∙ append_assoc (cell_bytes f) (cells_bytes fs) rest) in
    let more = front_of table cs fs tail rest p.1 q.1 few' first.1 in
    record {
      later = more.later;
      joined = λ i. first.0 i ∷ more.joined i;
      spelled = more.spelled;
      stored = more.stored;
    }

no_items : (xs : Pairs) → length xs ≡ 0 → xs ≡ []
no_items [] e = refl
no_items (x ∷ xs) e = absurd (omega arith)

nothing_later : (table : Table) (cells front : Pairs) (tail rest : List ℕ)
    (f : IsFrontOfCells table cells front tail rest) → length front ≡ length cells → f.later ≡ []
nothing_later table cells front tail rest f same = no_items f.later (
    let e : length cells ≡ length front + length f.later =
    ap (λ (l : Pairs). length l) f.joined ∙ length-append front f.later in
    omega arith)

begins_as : (table : Table) (bytes : List ℕ) (file : TableFile) → IsFileOf table bytes file
    → BeginsWithHead bytes (head_of file)
begins_as table bytes file f = record {
  stored = record {
    table = omega (arith, f.is_file.table);
    lower = f.is_file.lower;
    upper = f.is_file.upper;
    count = f.is_file.map.few;
  };
  spelled = ap (take head_size) f.spelled;
}

module _ (table : Table) (bytes : List ℕ) (file : TableFile) (f : IsFileOf table bytes file) where
  cells_behind : behind_head bytes ≡ cells_bytes file.cells ++ check_bytes (cells_bytes file.cells)
  cells_behind = ap behind_head f.spelled

  begins : BeginsWithHead bytes (head_of file)
  begins = begins_as table bytes file f

  stored : AllByRecursion (IsStoredCell table) file.cells
  stored = subst (λ (t : Table). AllByRecursion (IsStoredCell t) file.cells) f.same_table
      f.is_file.stored

  front : (head : Head) (cells : Pairs) (rest : List ℕ) → HasHead table bytes head
      → HasCells table head.count (behind_head bytes) cells rest
      → (length file.cells ≡ head.count) × IsFrontOfCells table file.cells cells
      (check_bytes (cells_bytes file.cells)) rest
  front head cells rest has h =
      let heads : head_of file ≡ head = one_head bytes (head_of file) head begins has.begins in
      let count : length file.cells ≡ head.count = ap (λ (x : Head). x.count) heads in
      let few : length cells ≤ length file.cells = omega (arith, h.few) in (
        count,
        front_of table file.cells cells (check_bytes (cells_bytes file.cells)) rest stored
            h.stored few
            (sym cells_behind ∙ h.spelled),
      )

  -- all cells of a reading are the file's, and the rest is their check
  all_front : (head : Head) (cells : Pairs) (rest : List ℕ) → HasHead table bytes head
      → HasAllCells table head.count (behind_head bytes) cells rest
      → (file.cells ≡ cells) × (rest ≡ check_bytes (cells_bytes file.cells))
  all_front head cells rest has h =
      let x = front head cells rest has h.front in
      let none = nothing_later table file.cells cells (check_bytes (cells_bytes file.cells)) rest
      x.1
      (h.all ∙ sym x.0) in (
        x.1.joined ∙ ap (λ (l : Pairs). cells ++ l) none ∙ append-nil cells,
        x.1.spelled ∙ ap (λ (l : Pairs). cells_bytes l ++ check_bytes (cells_bytes file.cells))
            none,
      )

  no_cell_later : (cells later : Pairs) (rest : List ℕ) → file.cells ≡ cells ++ later
      → rest ≡ cells_bytes later ++ check_bytes (cells_bytes file.cells)
      → AllByRecursion (IsStoredCell table) later → length cells < length file.cells
      → BeginsWithNoCell table rest → ⊥
  no_cell_later cells [] rest joined spelled p wanted none =
      let e : length file.cells ≡ length cells =
      ap (λ (l : Pairs). length l) (joined ∙ append-nil cells) in
      absurd (omega arith)
  no_cell_later cells (c ∷ cs) rest joined spelled p wanted none =
      none c (cells_bytes cs ++ check_bytes (cells_bytes file.cells)) p.0
      (spelled ∙ append_assoc (cell_bytes c) (cells_bytes cs)
      (check_bytes (cells_bytes file.cells)))

  disorder_later : (cells later : Pairs) (rest behind : List ℕ) (next : CellKey × Cell)
      → file.cells ≡ cells ++ later → rest ≡ cells_bytes later ++ check_bytes
      (cells_bytes file.cells)
      → AllByRecursion (IsStoredCell table) later → length cells < length file.cells
      → BeginsWithCell table rest next behind → (AreInOrder (cells ++ next ∷ []) → ⊥) → ⊥
  disorder_later cells [] rest behind next joined spelled p wanted found disordered =
      let e : length file.cells ≡ length cells =
      ap (λ (l : Pairs). length l) (joined ∙ append-nil cells) in
      absurd (omega arith)
  disorder_later cells (c ∷ cs) rest behind next joined spelled p wanted found disordered =
      let whole = check_bytes (cells_bytes file.cells) in
      let same = one_cell table c next (cells_bytes cs ++ whole) behind p.0 found.stored
      (sym (append_assoc (cell_bytes c) (cells_bytes cs) whole) ∙ sym spelled ∙ found.spelled) in
      let ordered : AreInOrder ((cells ++ c ∷ []) ++ cs) =
      subst AreInOrder (joined ∙ sym (append_assoc cells (c ∷ []) cs)) f.is_file.map.ordered in
      disordered (subst (λ (n : CellKey × Cell). AreInOrder (cells ++ n ∷ [])) same.0
      (front_in_order (cells ++ c ∷ []) cs ordered))

  check_is_long : (rest : List ℕ) → rest ≡ check_bytes (cells_bytes file.cells) → length rest ≡ 4
  check_is_long rest e = ap (λ (l : List ℕ). length l) e

  pub not_refused : (fault : TableFault) → Refuses table bytes fault → fault ≡ OutOfMemory
  not_refused OutOfMemory h = refl
  not_refused Short (inl h) =
      let long = head_is_long bytes (head_of file) begins in absurd (omega arith)
  not_refused Short (inr h) =
      let said = h.says in
      let four = check_is_long said.rest
      (all_front h.head said.cells said.rest h.begins said.whole).1 in
      absurd (omega (arith, said.short))
  not_refused (Version n) h =
      let one : take 4 bytes ≡ to_be_bytes w32 1 = ap (take 4) f.spelled in
      absurd (h.other (four_once n 1 h.fits (omega arith) (sym h.version ∙ one)))
  not_refused HeadCheck h =
      absurd (h.wrong (subst (λ (l : List ℕ). take 4 (drop head_front_size l)
      ≡ check_bytes (take head_front_size l))
      (sym f.spelled) refl))
  not_refused OtherTable h =
      let heads = one_head bytes (head_of file) h.head begins h.begins in
      let this : IsThisTable file.table table = (f.is_file.table, f.same_table) in
      absurd (h.other (subst (λ (x : Head). IsThisTable x.table table) heads this))
  not_refused Interval h =
      let heads = one_head bytes (head_of file) h.head begins h.begins in
      absurd (h.disordered (subst (λ (x : Head). IsUpTo x.lower x.upper) heads f.is_file.interval))
  not_refused (NoCell at) h =
      let said = h.says.1 in
      let x = front h.head said.cells h.says.0 h.begins said.front in
      let wanted : length said.cells < length file.cells = omega (arith, said.wanted, x.0) in
      absurd (no_cell_later said.cells x.1.later h.says.0 x.1.joined x.1.spelled x.1.stored wanted
      said.none)
  not_refused (Order at) h =
      let said = h.says.1 in
      let x = front h.head said.cells h.says.0 h.begins said.front in
      let wanted : length said.cells < length file.cells = omega (arith, said.wanted, x.0) in
      absurd (disorder_later said.cells x.1.later h.says.0 said.behind said.next x.1.joined
      x.1.spelled x.1.stored wanted said.found said.disordered)
  not_refused CellsCheck h =
      let said = h.says in
      let x = all_front h.head said.cells said.rest h.begins said.whole in
      absurd (said.wrong (ap (take 4) x.1
      ∙ ap (λ (l : Pairs). check_bytes (cells_bytes l)) x.0))
  not_refused (Trailing at) h =
      let said = h.says.1 in
      let four = check_is_long h.says.0
      (all_front h.head said.cells h.says.0 h.begins said.whole).1 in
      absurd (omega (arith, said.more))

  pub one_file : (other : TableFile) → IsFileOf table bytes other → other ≡ file
  one_file other g =
      let heads : head_of other ≡ head_of file = one_head bytes (head_of other) (head_of file)
      (begins_as table bytes other g) begins in
      let count : length other.cells ≡ length file.cells = ap (λ (x : Head). x.count) heads in
      let few : length other.cells ≤ length file.cells = omega arith in
      let x = front_of table file.cells other.cells (check_bytes (cells_bytes file.cells))
      (check_bytes (cells_bytes other.cells)) stored
      (subst (λ (t : Table). AllByRecursion (IsStoredCell t) other.cells) g.same_table
      g.is_file.stored)
      few (sym cells_behind ∙ ap behind_head g.spelled) in
      let none = nothing_later table file.cells other.cells (check_bytes (cells_bytes file.cells))
      (check_bytes (cells_bytes other.cells)) x count in
      let cells : other.cells ≡ file.cells =
      sym (x.joined ∙ ap (λ (l : Pairs). other.cells ++ l) none ∙ append-nil other.cells) in
      λ i. record {
        table = (heads i).table;
        lower = (heads i).lower;
        upper = (heads i).upper;
        cells = cells i;
      }

  pub decodes_to_it : (answer : Result TableFile TableFault) → Decodes table bytes answer
      → IsUnlessMemory file answer
  decodes_to_it (Ok other) h = inl (ap Ok (one_file other h))
  decodes_to_it (Err fault) h = inr (ap Err (not_refused fault h))

-- bytes are one table file at most
pub one_table_file : (table : Table) (bytes : List ℕ) (file other : TableFile)
    → IsFileOf table bytes file → IsFileOf table bytes other → other ≡ file
one_table_file table bytes file other a b = one_file table bytes file a other b

limits_of : (table : Table) (cells : Pairs) → AllByRecursion (IsStoredCell table) cells
    → AllByRecursion (IsWithinLimits table) cells
limits_of table [] h = tt
limits_of table (cell ∷ cells) h = (
  record {
    same_table = h.0.same_table;
    sizes = record {
      key = h.0.key.size;
      column = h.0.column.size;
      value = stored_size cell.1.kind cell.1.value h.0.value;
    };
  },
  limits_of table cells h.1,
)

-- what is decoded can be written
pub can_be_written : (table : Table) (bytes : List ℕ) (answer : Result TableFile TableFault)
    → Decodes table bytes answer → IfOk answer IsWritable
can_be_written table bytes (Ok file) h = record {
  table = h.is_file.table;
  interval = h.is_file.interval;
  cells = limits_of file.table file.cells h.is_file.stored;
}
can_be_written table bytes (Err fault) h = tt
