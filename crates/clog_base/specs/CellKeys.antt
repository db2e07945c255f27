-- The order of the places of cells.
use Rattle.std.specs.declared.cmp.Ordering.{Ordering}
use Rattle.std.specs.Ordering.{nat_cmp, ordering_then}
use Rattle.std.specs.Cmp.Lexicographic.{slice_cmp}
use Rattle.clog_base.specs.declared.cell.CellKey.{CellKey}

-- by table, then by the key's bytes, then by the column's
abbrev pub key_cmp : CellKey → CellKey → Ordering
key_cmp a b =
    ordering_then (nat_cmp a.table.0 b.table.0)
    (ordering_then (slice_cmp nat_cmp a.key b.key) (slice_cmp nat_cmp a.column b.column))
