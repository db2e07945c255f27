-- A cell's line is the JSON writer's text of its tokens.
use Rattle.std.proofs.Common.{◌≡◌, ℕ, List, [], ◌∷◌, ◌++◌, refl, ap, append_assoc}
use Rattle.json.specs.Print.{print, print_from, escape_byte}
use Rattle.json.specs.Token.{end_object}
use Rattle.clog_base.specs.declared.cell.Kind.{Kind}
use Rattle.clog_base.specs.declared.cell.Kind.TheVariants.{Deletion, Live}
use Rattle.clog_base.specs.declared.cell.Cell.{Cell}
use Rattle.clog_base.specs.declared.cell.CellKey.{CellKey}
use Rattle.clog_text.specs.CellTexts.{value_text, value_token, cell_text, cell_line, cell_tokens}
use Rattle.std.specs.Prelude.{false, codes}

value_printed : (kind : Kind) (value : List ℕ)
    → print_from false (value_token kind value ∷ end_object ∷ []) ≡ value_text kind value ++ codes
    "}"
unfolding print_from
value_printed Deletion value = refl
value_printed Live value = refl

pub cell_printed : (key : CellKey) (cell : Cell) → print (cell_tokens key cell) ≡ cell_text key cell
unfolding print_from escape_byte cell_tokens cell_text
cell_printed key cell = simp (value_printed, append_assoc)

pub line_printed : (key : CellKey) (cell : Cell)
    → print (cell_tokens key cell) ++ 10 ∷ [] ≡ cell_line key cell
unfolding cell_line
line_printed key cell = ap (λ (l : List ℕ). l ++ 10 ∷ []) (cell_printed key cell)
