use Rattle.std.proofs.Common.{◌≡◌, List, ◌++◌, length, subst, rules}
use Rattle.std.specs.Prelude.{OnErr}
use Rattle.std.specs.List.{flat_map}
use Rattle.std.specs.Int.{w16, to_be_bytes}
use Rattle.clog_fields.specs.Fields.{short_text, AppendsPart}
use Rattle.clog_fields.proofs.AppendedParts.{
  part_of_first,
  two_appended,
  on_refusal,
  last_refused,
}
use Rattle.clog_mutation.specs.declared.mutation.Update.{Update}
use Rattle.clog_mutation.specs.Payload.{update_bytes}
use Rattle.clog_mutation.proofs.writing.put_mutation.Goals as goal

pub returns-in_err-put_name-clause-err : goal.returns-in_err-put_name-clause-err
returns-in_err-put_name-clause-err c =
    let old = c.args.out.now.items in
    let new = c.put_name.new.out.items in
    let m = c.args.mutation.now in
    let count = to_be_bytes w16 (length m.updates) in
    on_refusal c.from_residual.result
    (part_of_first old new (short_text m.key ++ count) (flat_map update_bytes m.updates)
    (part_of_first old new (short_text m.key) count c.in_err-put_name.ensures.err))

pub returns-clause-err : goal.returns-clause-err
returns-clause-err c =
    let old = c.args.out.now.items in
    let m = c.args.mutation.now in
    let count = to_be_bytes w16 (length m.updates) in
    let named = c.put_name.new.out.items in
    let new = c.put_updates.new.out.items in
    let counted = c.extend_from_slice.new.self.items in
    let next : counted ≡ named ++ count = search rules in
    last_refused c.put_updates.result old counted new
    (short_text m.key ++ count) (flat_map update_bytes m.updates)
    (two_appended old named counted (short_text m.key) count
    c.in_ok-put_name.ensures.bytes next)
    (subst (λ (updates : List Update). OnErr c.put_updates.result
    (AppendsPart counted new (flat_map update_bytes updates))) c.as_slice-updates.ensures
    c.put_updates.ensures.err)
