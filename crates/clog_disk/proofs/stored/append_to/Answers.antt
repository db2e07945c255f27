use Rattle.std.proofs.Common.{◌∙◌, inr, refl, ap}
use Rattle.clog_disk.specs.InMemory.{state_of, undone, undo_at}
use Rattle.clog_disk.proofs.Undoing.{undone_at_once, undone_append}
use Rattle.clog_disk.proofs.stored.append_to.Goals as goal

pub returns-in_err-grow_at-clause-steps : goal.returns-in_err-grow_at-clause-steps
returns-in_err-grow_at-clause-steps c =
    let old = state_of c.args.files.now.entries in
    let name = c.args.name.now in
    inr (
      c.undo_of.result,
      c.in_ok-push.ensures.items,
      ap (λ u. undone u (state_of c.grow_at.new.files.entries)) c.undo_of.ensures
          ∙ ap (λ es. undone (undo_at name (old name)) (state_of es)) c.in_err-grow_at.ensures.err
          ∙ undone_at_once old name (old name) refl,
    )

pub returns-clause-steps : goal.returns-clause-steps
returns-clause-steps c =
    let old = state_of c.args.files.now.entries in
    let name = c.args.name.now in
    inr (
      c.undo_of.result,
      c.in_ok-push.ensures.items,
      ap (λ u. undone u (state_of c.grow_at.new.files.entries)) c.undo_of.ensures
          ∙ ap (undone (undo_at name (old name))) c.in_ok-grow_at.ensures.ok
          ∙ undone_append old name (old name) c.args.bytes.now refl,
    )
