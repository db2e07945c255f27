-- What a mutation says, and the bytes of its payload. Numbers are big endian.
pub use Rattle.clog_fields.specs.Fields.{short_text, timestamp_bytes, tagged}
use Rattle.std.specs.Prelude.{ℕ, List, [], ◌∷◌, ◌++◌, length, map}
use Rattle.std.specs.List.{flat_map}
use Rattle.std.specs.Int.{w16, to_be_bytes}
use Rattle.clog_base.specs.declared.cell.Cell.{Cell}
use Rattle.clog_base.specs.declared.cell.CellKey.{CellKey}
use Rattle.clog_mutation.specs.declared.mutation.Update.{Update}
use Rattle.clog_mutation.specs.declared.mutation.Mutation.{Mutation}

abbrev pub update_bytes : Update → List ℕ
update_bytes u =
    (u.table.0 ∷ []) ++ short_text u.column
    ++ timestamp_bytes u.cell.ts ++ tagged u.cell.kind u.cell.value

-- the payload of a mutation
abbrev pub payload_of : Mutation → List ℕ
payload_of m =
    short_text m.key ++ to_be_bytes w16 (length m.updates) ++ flat_map update_bytes m.updates

-- the pair of an update under a key
abbrev pub pair_of : List ℕ → Update → CellKey × Cell
pair_of key u = (record { table = u.table; key = key; column = u.column }, u.cell)

-- the cells that a mutation writes
abbrev pub cells_of : Mutation → List (CellKey × Cell)
cells_of m = map (pair_of m.key) m.updates
