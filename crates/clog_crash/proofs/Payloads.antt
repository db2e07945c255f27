-- The payload of a mutation that has one is bytes.
use Rattle.std.proofs.Common.{ℕ, List, [], ◌∷◌, ◌++◌, length, lit<, arith}
use Rattle.std.specs.Prelude.{IsUtf8}
use Rattle.std.specs.List.{flat_map, AllByRecursion}
use Rattle.std.specs.Int.{w16, w32, w64, to_be_bytes, cast_unsigned}
use Rattle.clog_spec.specs.Crc.{IsBytes}
use Rattle.clog_spec.proofs.Bytes.{
  bytes-nil,
  bytes-cons,
  append-IsBytes,
  short_number,
  number-IsBytes,
  long_number,
  text_bytes,
}
use Rattle.clog_base.specs.declared.cell.Kind.{Kind}
use Rattle.clog_base.specs.declared.cell.Kind.TheVariants.{Deletion, Live}
use Rattle.clog_mutation.specs.declared.mutation.Mutation.{Mutation}
use Rattle.clog_mutation.specs.declared.mutation.Update.{Update}
use Rattle.clog_mutation.specs.Payload.{payload_of, update_bytes, short_text, tagged}
use Rattle.clog_mutation.specs.Stored.{IsStored, IsStoredUpdate, IsStoredValue}

short_bytes : (text : List ℕ) → IsUtf8 text → IsBytes (short_text text)
short_bytes text utf8 =
    append-IsBytes (to_be_bytes w16 (length text)) text (short_number (length text))
    (text_bytes text utf8)

value_bytes : (kind : Kind) (value : List ℕ) → IsStoredValue kind value
    → IsBytes (tagged kind value)
value_bytes Deletion value stored = bytes-cons 0 [] (lit< tt) bytes-nil
value_bytes Live value stored =
    bytes-cons 1 (to_be_bytes w32 (length value) ++ value) (lit< tt)
    (append-IsBytes (to_be_bytes w32 (length value)) value (number-IsBytes (length value))
    (text_bytes value stored.utf8))

of_update : (u : Update) → IsStoredUpdate u → IsBytes (update_bytes u)
of_update u stored =
    let stamp = to_be_bytes w64 (cast_unsigned w64 u.cell.ts) in
    let named = (u.table.0 ∷ []) ++ short_text u.column in
    append-IsBytes (named ++ stamp) (tagged u.cell.kind u.cell.value)
    (append-IsBytes named stamp
    (append-IsBytes (u.table.0 ∷ []) (short_text u.column)
    (bytes-cons u.table.0 [] (omega (arith, stored.table)) bytes-nil)
    (short_bytes u.column stored.column.utf8)) (long_number (cast_unsigned w64 u.cell.ts)))
    (value_bytes u.cell.kind u.cell.value stored.value)

of_updates : (us : List Update) → AllByRecursion IsStoredUpdate us
    → IsBytes (flat_map update_bytes us)
of_updates [] stored = bytes-nil
of_updates (u ∷ us) stored =
    append-IsBytes (update_bytes u) (flat_map update_bytes us) (of_update u stored.0)
    (of_updates us stored.1)

pub of_payload : (m : Mutation) → IsStored m → IsBytes (payload_of m)
of_payload m stored =
    let count = to_be_bytes w16 (length m.updates) in
    append-IsBytes (short_text m.key ++ count) (flat_map update_bytes m.updates)
    (append-IsBytes (short_text m.key) count (short_bytes m.key stored.key.utf8)
    (short_number (length m.updates)))
    (of_updates m.updates stored.updates)
