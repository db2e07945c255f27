-- Reading a cell from left to right. The bytes end `end` bytes, from whose beginning the offsets of
-- refusals count.
use Rattle.std.specs.Prelude.{ℕ, ℤ, List}
use Rattle.clog_base.specs.declared.cell.Kind.{Kind}
use Rattle.clog_fields.specs.Reading.{Reader, both_of, name_at, ts_at, tagged_at}

-- key, column, timestamp, kind and value
abbrev pub Fields : Type 0
Fields = List ℕ × (List ℕ × (ℤ × (Kind × List ℕ)))

unfoldable pub cell_at : ℕ → Reader Fields
cell_at end =
    both_of (name_at end) (λ key.
    both_of (name_at end) (λ column. both_of (ts_at end) (λ ts. tagged_at end)))
