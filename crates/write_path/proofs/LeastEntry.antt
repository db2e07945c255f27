-- The least entry: 12 bytes around a payload of 18.
use Rattle.std.proofs.Common.{
  ◌≡◌,
  ℕ,
  ◌+◌,
  ◌≤◌,
  List,
  [],
  ◌∷◌,
  ◌++◌,
  length,
  arith,
  length-append,
}
use Rattle.std.specs.List.{flat_map, AllByRecursion}
use Rattle.std.specs.Int.{w16, w64, to_be_bytes, cast_unsigned}
use Rattle.clog_base.specs.declared.cell.Kind.{Kind}
use Rattle.clog_base.specs.declared.cell.Kind.TheVariants.{Deletion, Live}
use Rattle.clog_mutation.specs.declared.mutation.Mutation.{Mutation}
use Rattle.clog_mutation.specs.declared.mutation.Update.{Update}
use Rattle.clog_mutation.specs.Limits.{IsWithinLimits, UpdateIsWithinLimits}
use Rattle.clog_mutation.specs.Payload.{update_bytes, short_text, tagged}
use Rattle.path_core.specs.Keys.{least_entry}
use Rattle.write_path.specs.Writes.{entry_size}

tagged_least : (kind : Kind) (value : List ℕ) → 1 ≤ length (tagged kind value)
tagged_least Deletion value = omega arith
tagged_least Live value = omega arith

short_length : (text : List ℕ) → length (short_text text) ≡ 2 + length text
short_length text = omega (arith, length-append (to_be_bytes w16 (length text)) text)

-- a table, a column of a byte with its length, a timestamp and a tag
update_least : (u : Update) → UpdateIsWithinLimits u → 13 ≤ length (update_bytes u)
update_least u limits =
    let stamp = to_be_bytes w64 (cast_unsigned w64 u.cell.ts) in
    let named = (u.table.0 ∷ []) ++ short_text u.column in
    omega (
      arith,
      length-append (named ++ stamp) (tagged u.cell.kind u.cell.value),
      length-append named stamp,
      short_length u.column,
      limits.column.some,
      tagged_least u.cell.kind u.cell.value,
    )

payload_least : (key : List ℕ) (us : List Update) → 1 ≤ length key → 1 ≤ length us
    → AllByRecursion UpdateIsWithinLimits us
    → 18 ≤ length (short_text key ++ to_be_bytes w16 (length us) ++ flat_map update_bytes us)
payload_least key [] named some all = absurd (omega (arith, some))
payload_least key (u ∷ us) named some all =
    let count = to_be_bytes w16 (length (u ∷ us)) in
    omega (
      arith,
      length-append (short_text key ++ count) (flat_map update_bytes (u ∷ us)),
      length-append (short_text key) count,
      length-append (update_bytes u) (flat_map update_bytes us),
      short_length key,
      named,
      update_least u all.0,
    )

pub entry_least : (m : Mutation) → IsWithinLimits m → least_entry ≤ entry_size m
entry_least m limits = omega (
  arith,
  payload_least m.key m.updates limits.key.some limits.some limits.updates,
)
