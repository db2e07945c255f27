-- The reader of a cell and how a cell is spelled.
use Rattle.std.proofs.Common.{◌≡◌, ℕ, List, ◌++◌, Result, Ok, Err, refl, sym, ap, ◌∙◌, append_assoc}
use Rattle.clog_spec.specs.Crc.{IsBytes}
use Rattle.clog_base.specs.declared.cell.Cell.{Cell}
use Rattle.clog_base.specs.declared.cell.CellKey.{CellKey}
use Rattle.clog_base.specs.declared.cell.Table.{Table}
use Rattle.clog_base.specs.declared.fault.PayloadFault.{PayloadFault}
use Rattle.clog_fields.specs.Limits.{IsNameText}
use Rattle.clog_fields.specs.Refusals.{Refusing, Either, IsRefusedBehind, NameIsRefused}
use Rattle.clog_fields.specs.Reading.{both_of, name_at, ts_at, tagged_at}
use Rattle.clog_fields.proofs.Readers.{IsReader, both_reader}
use Rattle.clog_fields.proofs.Grammar.{name_reader, tagged_bytes}
use Rattle.clog_fields.proofs.Columns.{spell_column, good_column, refuses_column, column_reader}
use Rattle.clog_table.specs.Format.{short_text, timestamp_bytes, cell_bytes}
use Rattle.clog_table.specs.Limits.{IsStoredCell}
use Rattle.clog_table.specs.Cells.{BeginsWithNoCell}
use Rattle.clog_table.specs.RawFields.{pair_of}
use Rattle.clog_table.specs.Reading.{Fields, cell_at}

abbrev fields_bytes : Fields → List ℕ
fields_bytes x = short_text x.0 ++ spell_column x.1

abbrev AreFields : Fields → Type 0
AreFields x = IsNameText x.0 × good_column x.1

abbrev FieldsAreRefused : ℕ → Refusing
FieldsAreRefused end =
    Either (NameIsRefused end) (IsRefusedBehind short_text IsNameText (λ key. refuses_column end))

fields_reader : (end : ℕ) → IsReader (cell_at end) fields_bytes AreFields (FieldsAreRefused end)
unfolding cell_at
fields_reader end =
    both_reader (name_at end) short_text IsNameText (NameIsRefused end)
    (λ key. both_of (name_at end) (λ column. both_of (ts_at end) (λ ts. tagged_at end)))
    (λ key. spell_column) (λ key. good_column) (λ key. refuses_column end)
    (name_reader end) (λ key h. column_reader end)

abbrev pub parts : CellKey × Cell → Fields
parts pair = (pair.0.key, (pair.0.column, (pair.1.ts, (pair.1.kind, pair.1.value))))

regroup : (a b c d rest : List ℕ) → (((a ++ b) ++ c) ++ d) ++ rest ≡ (a ++ (b ++ (c ++ d))) ++ rest
regroup a b c d rest = simp append_assoc

cell_bytes-are : (table : Table) (x : Fields) (rest : List ℕ)
    → cell_bytes (pair_of table x) ++ rest ≡ fields_bytes x ++ rest
cell_bytes-are table x rest =
    regroup (short_text x.0) (short_text x.1.0) (timestamp_bytes x.1.1.0)
    (tagged_bytes x.1.1.1) rest

-- what is read as a cell is one, and is spelled so
pub cell_takes : (end : ℕ) (table : Table) (bytes rest : List ℕ) (x : Fields) → IsBytes bytes
    → cell_at end bytes ≡ Ok (x, rest)
    → (bytes ≡ cell_bytes (pair_of table x) ++ rest) × IsStoredCell table (pair_of table x)
cell_takes end table bytes rest x fits e =
    let t = (fields_reader end).takes bytes rest x fits e in (
      t.0 ∙ sym (cell_bytes-are table x rest),
      record {
        same_table = refl;
        key = t.1.0;
        column = t.1.1.0;
        ts = t.1.1.1.0;
        value = t.1.1.1.1;
      },
    )

-- a cell that stands there is read
pub cell_again : (end : ℕ) (table : Table) (pair : CellKey × Cell) (rest : List ℕ)
    → IsStoredCell table pair → cell_at end (cell_bytes pair ++ rest) ≡ Ok (parts pair, rest)
cell_again end table pair rest h =
    ap (cell_at end) (cell_bytes-are pair.0.table (parts pair) rest)
    ∙ (fields_reader end).again rest (parts pair) (h.key, (h.column, (h.ts, h.value)))

-- where reading is refused, none stands there
pub no_cell : (end : ℕ) (table : Table) (bytes : List ℕ) (fault : PayloadFault)
    → cell_at end bytes ≡ Err fault → BeginsWithNoCell table bytes
no_cell end table bytes fault e pair behind stored spelled =
    let clash : ◌≡◌ {A = Result (Fields × List ℕ) PayloadFault} (Err fault)
    (Ok (parts pair, behind)) =
    sym e ∙ ap (cell_at end) spelled ∙ cell_again end table pair behind stored in
    cc clash

-- the fields of a cell of a table are those of one cell alone
pub pair_of-parts : (table : Table) (pair : CellKey × Cell) → IsStoredCell table pair
    → pair_of table (parts pair) ≡ pair
pair_of-parts table pair h =
    ap (λ (t : Table). pair_of t (parts pair)) (sym h.same_table)
