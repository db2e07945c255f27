use Rattle.std.proofs.Common.{◌∙◌, inr, refl, ap}
use Rattle.clog_disk.specs.InMemory.{state_of, undone, undo_at}
use Rattle.clog_disk.proofs.Undoing.{undone_settle}
use Rattle.clog_disk.proofs.stored.settle_file.Goals as goal

pub returns-clause-steps : goal.returns-clause-steps
returns-clause-steps c =
    let old = state_of c.args.files.now.entries in
    let name = c.args.name.now in
    inr (
      c.undo_of.result,
      c.in_ok-push.ensures.items,
      ap (λ u. undone u (state_of c.settle_at.new.files.entries)) c.undo_of.ensures
          ∙ ap (undone (undo_at name (old name))) c.settle_at.ensures
          ∙ undone_settle old name (old name) refl,
    )
