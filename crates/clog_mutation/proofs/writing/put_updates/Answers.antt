use Rattle.std.proofs.Common.{◌^◌, ◌++◌, suc, take, drop, subst, sym}
use Rattle.std.specs.List.{flat_map}
use Rattle.clog_fields.specs.Fields.{AppendsPart}
use Rattle.clog_fields.proofs.AppendedParts.{part_of_first, part_behind, on_refusal}
use Rattle.clog_mutation.specs.Payload.{update_bytes}
use Rattle.clog_mutation.proofs.Pieces.{piece_fits, piece_between}
use Rattle.clog_mutation.proofs.writing.put_updates.Goals as goal

pub put_update-requires-clause-size : goal.put_update-requires-clause-size
put_update-requires-clause-size c =
    piece_fits update_bytes c.args.updates.now c.loop-update.update-index c.update-item.result
    (2 ^ 32)
    c.loop-update-test.true c.update-item.is c.requires.size

pub returns-in_err-put_update-clause-err : goal.returns-in_err-put_update-clause-err
returns-in_err-put_update-clause-err c =
    let old = c.args.out.now.items in
    let new = c.put_update.new.out.items in
    let updates = c.args.updates.now in
    let i = c.loop-update.update-index in
    let before = flat_map update_bytes (take i updates) in
    let piece = update_bytes c.update-item.result in
    let behind = flat_map update_bytes (drop (suc i) updates) in
    on_refusal c.from_residual.result
    (subst (AppendsPart old new)
    (sym (piece_between update_bytes updates i c.update-item.result c.loop-update-test.true
    c.update-item.is))
    (part_of_first old new (before ++ piece) behind
    (part_behind old c.loop-update.out.items new before piece c.loop-update.invariant.bytes
    c.in_err-put_update.ensures.err)))
