use Rattle.std.proofs.Common.{ap, arith}
use Rattle.std.proofs.lemmas.List.{get_or_default}
use Rattle.path_core.specs.declared.note.EntryNote.{EntryNote}
use Rattle.path_machine.proofs.list_keeper.count_up_to.Goals as goal

pub returns-else-notes-count-clause-high : goal.returns-else-notes-count-clause-high
returns-else-notes-count-clause-high c = λ k d le inside.
    let here = c.index-notes-count.result in
    let up = c.requires c.loop-count.count k here le inside in
    let is = ap (λ (n : EntryNote). n.end.0) c.index-notes-count.is in
    let same = ap (λ (n : EntryNote). n.end.0) (get_or_default c.args.notes.now k here d inside) in
    let out = c.if-notes-count.false in
    omega arith
