use Rattle.std.proofs.Common.{◌∙◌, None, inr, refl, ap, [], ◌∷◌, ◌++◌}
use Rattle.clog_disk.specs.InMemory.{state_of, moved_at, undone}
use Rattle.clog_disk.proofs.MovedFiles.{undone_moved}
use Rattle.clog_disk.proofs.moved.remove_file.Goals as goal

pub returns-clause-steps : goal.returns-clause-steps
returns-clause-steps c =
    let old = state_of c.args.files.now.entries in
    let name = c.args.name.now in
    inr (
      moved_at name (old name),
      c.take_from.ensures.noted c.args.undos.now.items
          (c.in_ok-push.ensures.items
          ∙ ap (λ u. c.args.undos.now.items ++ u ∷ []) c.undo_of.ensures),
      ap (undone (moved_at name (old name))) c.take_from.ensures.gone
          ∙ undone_moved old name (old name) None refl,
    )
