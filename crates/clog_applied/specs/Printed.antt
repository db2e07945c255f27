-- What a run prints.
use Rattle.std.specs.Prelude.{
  ◌≡◌,
  ℕ,
  Bool,
  true,
  false,
  List,
  [],
  ◌∷◌,
  ◌++◌,
  map,
  codes,
  decimal,
  Contains,
}
use Rattle.std.specs.List.{flat_map, range_with_len}
use Rattle.clog_base.specs.declared.cell.Cell.{Cell}
use Rattle.clog_base.specs.declared.cell.CellKey.{CellKey}
use Rattle.clog_disk.specs.Files.{Files}
use Rattle.clog_text.specs.CellTexts.{row_line}
use Rattle.clog_words.specs.declared.request.ApplyOptions.{ApplyOptions}
use Rattle.clog_crash.specs.Restore.{IsRestored}
use Rattle.clog_applied.specs.History.{LoggedLine}

-- a text and 0A
abbrev pub line : List ℕ → List ℕ
line text = text ++ 10 ∷ []

abbrev pub applied_line : ℕ → List ℕ
applied_line lines = line (codes "applied " ++ decimal lines)

-- the receipt of a line: its number, the id of its entry's segment, and where the entry ends there
abbrev pub receipt_line : ℕ → ℕ → ℕ → List ℕ
receipt_line number id end =
    line (codes "receipt " ++ decimal number ++ (32 ∷ decimal id) ++ (32 ∷ decimal end))

abbrev pub receipt_of : LoggedLine → List ℕ
receipt_of w = receipt_line w.number w.id w.end

abbrev pub number_of : LoggedLine → ℕ
number_of w = w.number

-- entries of the history, one for each line, in the order of the lines
pub record AreByLine (history : List LoggedLine) (lines : ℕ) (logged : List LoggedLine) : Type 0
  where
    pub numbers : map number_of logged ≡ range_with_len 1 lines
    pub each : (w : LoggedLine) → Contains logged w → Contains history w

-- the receipts of all lines, where they are asked for
abbrev pub AreReceipts : Bool → List LoggedLine → ℕ → List ℕ → Type 0
AreReceipts false history lines text = text ≡ []
AreReceipts true history lines text =
    (logged : List LoggedLine) × AreByLine history lines logged
    × (text ≡ flat_map receipt_of logged)

-- what the folder restores to, where it is asked for
abbrev pub AreRows : Bool → Files → List ℕ → Type 0
AreRows false after text = text ≡ []
AreRows true after text =
    (rows : List (CellKey × Cell)) × IsRestored after rows × (text ≡ flat_map row_line rows)

-- how many lines were applied, the receipts, and what the folder restores to
pub record ReportIsPrinted (options : ApplyOptions) (after : Files) (lines : ℕ)
    (history : List LoggedLine) (report : List ℕ) : Type 0 where
  pub receipts : List ℕ
  pub rows : List ℕ
  pub receipts_are : AreReceipts options.receipts history lines receipts
  pub rows_are : AreRows options.dump after rows
  pub text : report ≡ applied_line lines ++ (receipts ++ rows)
