use Rattle.std.proofs.Common.{◌∙◌, Some, ap, [], ◌∷◌, ◌++◌}
use Rattle.clog_disk.specs.InMemory.{state_of}
use Rattle.clog_disk.proofs.MovedFiles.{steps_moved, on_err_map}
use Rattle.clog_disk.proofs.moved.put_lasting.Goals as goal

pub returns-clause-steps : goal.returns-clause-steps
returns-clause-steps c =
    let es = c.args.files.now.entries in
    let old = state_of es in
    let name = c.args.name.now in
    let undos = c.args.undos.now.items in
    let is = c.in_ok-file.ensures in
    steps_moved old (state_of c.replace_at.new.files.entries) undos _
    c.replace_at.new.undos.items name (Some c.in_ok-file.file) c.undo_of.result
    c.replace_at.result c.undo_of.ensures c.in_ok-push.ensures.items c.replace_at.ensures.ok
    (on_err_map state_of _ _ c.replace_at.result c.replace_at.ensures.err)
    (c.replace_at.ensures.noted undos (c.in_ok-push.ensures.items
    ∙ ap (λ u. undos ++ u ∷ []) c.undo_of.ensures))
    c.replace_at.ensures.kept
