-- What stands behind the cells decides.
use Rattle.std.proofs.Common.{
  ◌≡◌,
  ℕ,
  ◌+◌,
  ◌≤◌,
  ◌<◌,
  inr,
  List,
  ◌++◌,
  length,
  take,
  refl,
  sym,
  ap,
  subst,
  ◌∙◌,
  append_assoc,
  arith,
  length-append,
  length-drop,
}
use Rattle.std.specs.List.{AllByRecursion}
use Rattle.std.proofs.lemmas.List.{take-append-drop, take_at}
use Rattle.clog_base.specs.declared.cell.Table.{Table}
use Rattle.clog_table.specs.declared.head.Head.{Head}
use Rattle.clog_table.specs.declared.fault.TableFault.{TableFault}
use Rattle.clog_table.specs.declared.fault.TableFault.TheVariants.{
  Short,
  Version,
  HeadCheck,
  Table as OtherTable,
  Interval,
  Cell as NoCell,
  Order,
  CellsCheck,
  Trailing,
  OutOfMemory,
}
use Rattle.clog_table.specs.Format.{
  cells_bytes,
  check_bytes,
  head_bytes,
  head_size,
  behind_head,
  head_of,
  file_of,
}
use Rattle.clog_table.specs.Limits.{IsStoredCell}
use Rattle.clog_table.specs.Heads.{HasHead}
use Rattle.clog_table.specs.Cells.{HasCells}
use Rattle.clog_fields.specs.Refusals.{place}
use Rattle.clog_table.specs.Refusals.{
  cells_text,
  HasAllCells,
  IsFileOf,
  RefusesCells,
  RefusesEnd,
  Refuses,
}
use Rattle.clog_table.proofs.Keys.{Pairs}
use Rattle.clog_table.proofs.HeadParts.{head_is_long}

module _ (table : Table) (bytes : List ℕ) (head : Head) (cells : Pairs) (rest : List ℕ)
    (begins : HasHead table bytes head)
    (front : HasCells head.table head.count (behind_head bytes) cells rest)
    (all : length cells ≡ head.count) where
  whole : HasAllCells table head.count (behind_head bytes) cells rest
  whole = record {
    front = subst (λ (t : Table). HasCells t head.count (behind_head bytes) cells rest)
        begins.same_table front;
    all = all;
  }

  spelled : bytes ≡ (head_bytes head ++ cells_bytes cells) ++ rest
  spelled =
      sym (take-append-drop head_size bytes)
      ∙ ap (λ (l : List ℕ). l ++ behind_head bytes) begins.begins.spelled
      ∙ ap (λ (l : List ℕ). head_bytes head ++ l) front.spelled
      ∙ sym (append_assoc (head_bytes head) (cells_bytes cells) rest)

  pub rest_behind : head_size + length rest ≤ length bytes
  rest_behind =
      let e : length (behind_head bytes) ≡ length (cells_bytes cells) + length rest =
      ap (λ (l : List ℕ). length l) front.spelled ∙ length-append (cells_bytes cells) rest in
      omega (arith, e, length-drop head_size bytes, head_is_long bytes head begins.begins)

  pub text_is : cells_text bytes rest ≡ cells_bytes cells
  text_is =
      let n : length (head_bytes head ++ cells_bytes cells) ≡ place (length bytes) rest =
      (let e : length bytes ≡ length (head_bytes head ++ cells_bytes cells) + length rest =
      ap (λ (l : List ℕ). length l) spelled
      ∙ length-append (head_bytes head ++ cells_bytes cells) rest in omega arith) in
      let t : take (place (length bytes) rest) bytes ≡ head_bytes head ++ cells_bytes cells =
      ap (take (place (length bytes) rest)) spelled
      ∙ take_at (head_bytes head ++ cells_bytes cells) rest (place (length bytes) rest) n in
      ap behind_head t ∙ (let b : behind_head (head_bytes head ++ cells_bytes cells)
      ≡ cells_bytes cells = refl in b)

  -- why the end is refused is why the bytes are
  pub end_refused : (fault : TableFault)
      → RefusesEnd (cells_bytes cells) rest (place (length bytes) rest) fault
      → Refuses table bytes fault
  end_refused Short h = inr (record {
    head = head;
    begins = begins;
    says = record { cells = cells; rest = rest; whole = whole; short = h };
  })
  end_refused CellsCheck h = record {
    head = head;
    begins = begins;
    says = record { cells = cells; rest = rest; whole = whole; long = h.0; wrong = h.1 };
  }
  end_refused (Trailing at) h = record {
    head = head;
    begins = begins;
    says = (rest, record { cells = cells; whole = whole; right = h.0; more = h.1 }, h.2);
  }
  end_refused (NoCell at) h = absurd h
  end_refused (Order at) h = absurd h
  end_refused OutOfMemory h = absurd h
  end_refused (Version n) h = absurd h
  end_refused HeadCheck h = absurd h
  end_refused OtherTable h = absurd h
  end_refused Interval h = absurd h

  pub refused_at_end : (fault : TableFault)
      → RefusesEnd (cells_text bytes rest) rest (place (length bytes) rest) fault → Refuses table
      bytes fault
  refused_at_end fault h =
      end_refused fault (subst (λ (l : List ℕ). RefusesEnd l rest (place (length bytes) rest) fault)
      text_is h)

  -- the head is that of the file
  pub same_head : head ≡ head_of (file_of table head.lower head.upper cells)
  same_head = λ i. record {
    table = begins.same_table i;
    lower = head.lower;
    upper = head.upper;
    count = sym all i;
  }

  -- the bytes are the file's spelling
  pub is_file : rest ≡ check_bytes (cells_text bytes rest)
      → IsFileOf table bytes (file_of table head.lower head.upper cells)
  is_file right = record {
    is_file = record {
      table = subst (λ (t : Table). t.0 < 16) begins.same_table begins.known;
      lower = begins.begins.stored.lower;
      upper = begins.begins.stored.upper;
      interval = begins.interval;
      stored = subst (λ (t : Table). AllByRecursion (IsStoredCell t) cells) begins.same_table
          front.stored;
      map = record {
        ordered = front.ordered;
        few = omega (arith, begins.begins.stored.count);
      };
    };
    same_table = refl;
    spelled = spelled
        ∙ ap (λ (l : List ℕ). (head_bytes head ++ cells_bytes cells) ++ l)
        (right ∙ ap check_bytes text_is)
        ∙ ap (λ (h : Head). (head_bytes h ++ cells_bytes cells) ++ check_bytes (cells_bytes cells))
        same_head;
  }

-- why the cells are refused is why the bytes are
pub refused_in_cells : (table : Table) (bytes : List ℕ) (head : Head) (fault : TableFault)
    → HasHead table bytes head
    → RefusesCells bytes head.table head.count (behind_head bytes) fault
    → Refuses table bytes fault
refused_in_cells table bytes head (NoCell at) begins h = record {
  head = head;
  begins = begins;
  says = subst (λ (t : Table). RefusesCells bytes t head.count (behind_head bytes) (NoCell at))
      begins.same_table h;
}
refused_in_cells table bytes head (Order at) begins h = record {
  head = head;
  begins = begins;
  says = subst (λ (t : Table). RefusesCells bytes t head.count (behind_head bytes) (Order at))
      begins.same_table h;
}
refused_in_cells table bytes head OutOfMemory begins h = tt
refused_in_cells table bytes head Short begins h = absurd h
refused_in_cells table bytes head (Version n) begins h = absurd h
refused_in_cells table bytes head HeadCheck begins h = absurd h
refused_in_cells table bytes head OtherTable begins h = absurd h
refused_in_cells table bytes head Interval begins h = absurd h
refused_in_cells table bytes head CellsCheck begins h = absurd h
refused_in_cells table bytes head (Trailing at) begins h = absurd h
