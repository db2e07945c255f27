use Rattle.std.proofs.Common.{◌≡◌, [], ◌∷◌, ◌++◌, rules}
use Rattle.clog_fields.specs.Fields.{short_text, timestamp_bytes, tagged}
use Rattle.clog_fields.proofs.AppendedParts.{
  part_of_first,
  part_behind,
  two_appended,
  on_refusal,
  last_refused,
}
use Rattle.clog_mutation.proofs.writing.put_update.Goals as goal

pub returns-in_err-put_name-clause-err : goal.returns-in_err-put_name-clause-err
returns-in_err-put_name-clause-err c =
    let old = c.args.out.now.items in
    let new = c.put_name.new.out.items in
    let u = c.args.update.now in
    let table = u.table.0 ∷ [] in
    let column = short_text u.column in
    let ts = timestamp_bytes u.cell.ts in
    let value = tagged u.cell.kind u.cell.value in
    on_refusal c.from_residual-in_err-put_name.result
    (part_of_first old new ((table ++ column) ++ ts) value
    (part_of_first old new (table ++ column) ts
    (part_behind old c.push.new.self.items new table column c.in_ok-push.ensures.items
    c.in_err-put_name.ensures.err)))

pub returns-clause-err : goal.returns-clause-err
returns-clause-err c =
    let old = c.args.out.now.items in
    let first = c.push.new.self.items in
    let second = c.put_name.new.out.items in
    let third = c.put_timestamp.new.out.items in
    let u = c.args.update.now in
    let table = u.table.0 ∷ [] in
    let column = short_text u.column in
    let ts = timestamp_bytes u.cell.ts in
    let stamped : third ≡ second ++ ts = search rules in
    last_refused c.put_value.result old third c.put_value.new.out.items ((table ++ column) ++ ts)
    (tagged u.cell.kind u.cell.value)
    (two_appended old second third (table ++ column) ts
    (two_appended old first second table column c.in_ok-push.ensures.items
    c.in_ok-put_name.ensures.bytes) stamped)
    c.put_value.ensures.err
