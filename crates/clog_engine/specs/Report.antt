-- What a run prints where it is well.
use Rattle.std.specs.Prelude.{
  ◌≡◌,
  ℕ,
  List,
  [],
  ◌∷◌,
  ◌++◌,
  length,
  decimal,
  Bool,
  true,
  false,
}
use Rattle.std.specs.List.{flat_map}
use Rattle.clog_base.specs.declared.cell.Cell.{Cell}
use Rattle.clog_base.specs.declared.cell.CellKey.{CellKey}
use Rattle.clog_cells.specs.Merge.{IsMerge}
use Rattle.clog_mutation.specs.declared.mutation.Mutation.{Mutation}
use Rattle.clog_mutation.specs.Payload.{cells_of}
use Rattle.clog_text.specs.CellTexts.{row_line}
use Rattle.clog_applied.specs.Printed.{applied_line, line, receipt_line}
use Rattle.write_path.specs.declared.commit.Receipt.{Receipt}

-- a word, a space and a number
abbrev pub numbered_line : List ℕ → ℕ → List ℕ
numbered_line word number = line (word ++ 32 ∷ decimal number)

-- ---- receipts

-- the receipt of a line by its position, and those of lines
abbrev pub receipt_told : Receipt → List ℕ
receipt_told r = receipt_line r.line r.position.id r.position.offset

-- No line of a head is longer: a receipt has its word and spaces, 10 digits of its number, 20 of an
-- id and 10 of an end.
abbrev pub longest_receipt : ℕ
longest_receipt = 51

abbrev pub receipts_told : List Receipt → List ℕ
receipts_told receipts = flat_map receipt_told receipts

-- ---- the report

-- how many lines were applied, with the receipts of all of them, in the order of the lines, where
-- they are asked for
abbrev pub head_with : Bool → List Receipt → List ℕ
head_with false receipts = applied_line (length receipts)
head_with true receipts = applied_line (length receipts) ++ receipts_told receipts

-- that, with the rows where they are asked for
abbrev pub report_of : Bool → List ℕ → List (CellKey × Cell) → List ℕ
report_of false head rows = head
report_of true head rows = head ++ flat_map row_line rows

-- the report has the cells that those of before and the mutations merge to
pub record IsDump (head : List ℕ) (before : List (CellKey × Cell)) (mutations : List Mutation)
    (report : List ℕ) : Type 0 where
  pub rows : List (CellKey × Cell)
  pub merge : IsMerge (before ++ flat_map cells_of mutations) rows
  pub text : report ≡ report_of true head rows

-- The report of mutations over the cells of before, with the cells where they are asked for.
abbrev pub IsReport : Bool → List ℕ → List (CellKey × Cell) → List Mutation → List ℕ → Type 0
IsReport false head before mutations report = report ≡ report_of false head []
IsReport true head before mutations report = IsDump head before mutations report

-- the text of the rows that cells of before and others merge to, where they are asked for
abbrev pub AreRowsOf : Bool → List (CellKey × Cell) → List (CellKey × Cell) → List ℕ → Type 0
AreRowsOf false before cells text = text ≡ []
AreRowsOf true before cells text =
    (rows : List (CellKey × Cell)) × IsMerge (before ++ cells) rows
    × (text ≡ flat_map row_line rows)
