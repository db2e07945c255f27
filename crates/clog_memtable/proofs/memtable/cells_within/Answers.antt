use Rattle.std.proofs.Common.{
  ◌∷◌,
  [],
  ◌++◌,
  List,
  ap,
  sym,
  ◌∙◌,
  subst,
  take,
  arith,
}
use Rattle.std.proofs.lemmas.List.{take_all, take_more}
use Rattle.clog_base.proofs.Follows.{if_ok}
use Rattle.path_core.specs.declared.note.EntryNote.{EntryNote}
use Rattle.clog_memtable.specs.Filling.{IsFilled}
use Rattle.clog_memtable.proofs.Filled.{filled_is, filled_more, filled_none}
use Rattle.clog_memtable.proofs.memtable.cells_within.Goals as goal

pub loop-note-init : goal.loop-note-init
loop-note-init c = filled_none c.args.interval c.new-cells.result c.new-cells.ensures

pub loop-note-preserved : goal.loop-note-preserved
loop-note-preserved c = let notes = c.args.logged.now in let note = c.note-item.result in
    let whole = c.requires.whole note
    (c.loop-note.note-index, c.loop-note-test.true, sym c.note-item.is) in
    subst (λ (ns : List EntryNote). IsFilled c.args.interval ns c.put_within.new.cells)
    (ap (λ (n : EntryNote). take c.loop-note.note-index notes ++ n ∷ []) c.note-item.is
    ∙ sym (take_more notes c.loop-note.note-index note c.loop-note-test.true))
    (filled_more c.args.interval (take c.loop-note.note-index notes) note c.loop-note.cells
    c.put_within.new.cells c.loop-note.invariant whole (c.in_ok-put_within.ensures whole))

pub returns : goal.returns
returns c h f logged file = let notes = c.args.logged.now in
    let F = subst (λ (ns : List EntryNote). IsFilled c.args.interval ns c.loop-note.cells)
    (take_all c.loop-note.note-index notes (omega (arith, c.loop-note-test.false)))
    c.loop-note.invariant in
    if_ok c.into_map.result _ _ (c.into_map.ensures F.pairs F.put) (λ rows.
    filled_is c.args.interval notes h f logged file c.loop-note.cells rows F)
