-- A text in the front of a row of bytes.
use Rattle.std.specs.Prelude.{◌≡◌, ◌≤◌, ℕ, List, length, take}
use Rattle.clog_base.specs.declared.text_row.TextRow.TheInside.{Inside}

-- how long a row is
abbrev pub row_size : ℕ
row_size = 192

abbrev pub row_text : Inside → List ℕ
row_text t = take t.len t.row

pub record IsTextRow (t : Inside) : Type 0 where
  pub len : t.len ≤ row_size
  pub row : length t.row ≡ row_size
