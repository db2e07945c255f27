-- A cell as a line of text.
use Rattle.std.specs.Prelude.{ℕ, ℤ, List, [], ◌∷◌, ◌++◌, codes, decimal}
use Rattle.std.specs.Fmt.{signed_decimal}
use Rattle.json.specs.Print.{quoted}
use Rattle.json.specs.Token.{Token, begin_object, end_object, key as name_token, string, number}
use Rattle.json.specs.Token.{null}
use Rattle.clog_base.specs.declared.cell.Table.{Table}
use Rattle.clog_base.specs.declared.cell.Kind.{Kind}
use Rattle.clog_base.specs.declared.cell.Kind.TheVariants.{Deletion, Live}
use Rattle.clog_base.specs.declared.cell.Cell.{Cell}
use Rattle.clog_base.specs.declared.cell.CellKey.{CellKey}

-- null for a deletion
abbrev pub value_text : Kind → List ℕ → List ℕ
value_text Deletion value = codes "null"
value_text Live value = quoted value

-- the names in this order, and no space
unfoldable pub cell_text : CellKey → Cell → List ℕ
cell_text key cell =
    codes "{\"column\":" ++ quoted key.column ++ codes ",\"key\":" ++ quoted key.key
    ++ codes ",\"table\":" ++ decimal key.table.0 ++ codes ",\"ts\":" ++ signed_decimal cell.ts
    ++ codes ",\"value\":" ++ value_text cell.kind cell.value ++ codes "}"

unfoldable pub cell_line : CellKey → Cell → List ℕ
cell_line key cell = cell_text key cell ++ 10 ∷ []

-- the line of a pair
abbrev pub row_line : CellKey × Cell → List ℕ
row_line row = cell_line row.0 row.1

-- ---- for private clauses: the tokens of a cell's text

abbrev pub text_tokens : List ℕ → List ℕ → List Token
text_tokens name text = name_token name ∷ string text ∷ []

abbrev pub number_tokens : Table → ℤ → List Token
number_tokens table ts =
    name_token (codes "table") ∷ number (decimal table.0) ∷ name_token (codes "ts") ∷ number
    (signed_decimal ts) ∷ []

abbrev pub value_token : Kind → List ℕ → Token
value_token Deletion value = null
value_token Live value = string value

unfoldable pub cell_tokens : CellKey → Cell → List Token
cell_tokens key cell =
    begin_object ∷ (text_tokens (codes "column") key.column ++ text_tokens (codes "key") key.key
    ++ number_tokens key.table cell.ts ++ name_token (codes "value") ∷ value_token cell.kind
    cell.value ∷ end_object ∷ [])
