use Rattle.std.proofs.Common.{sym, ◌∙◌, subst, refl}
use Rattle.std.specs.Prelude.{Contains}
use Rattle.std.proofs.lemmas.List.{get_or_default}
use Rattle.std.proofs.lemmas.List.Elements.{Contains-get_or}
use Rattle.path_core.specs.declared.note.EntryNote.{EntryNote}
use Rattle.clog_writers.proofs.Slots.{all_placed, none_placed, one_placed}
use Rattle.clog_writers.proofs.placing.place_receipts.Goals as goal

pub loop-note-init : goal.loop-note-init
loop-note-init c = record {
  long = refl;
  placed = none_placed c.args.base c.args.notes.now c.args.receipts.now;
}

pub loop-note-preserved : goal.loop-note-preserved
loop-note-preserved c =
    let l = c.loop-note in let I = l.invariant in let p = c.place_receipt.ensures in
    let low = c.loop-note-test.true in
    let notes = c.args.notes.now in
    let j = l.note-index in
    let n = c.note-item.result in
    let is = c.note-item.is in record {
      long = p.long ∙ I.long;
      placed = one_placed c.args.base notes j l.receipts c.place_receipt.new.receipts n
          (subst (λ (m : EntryNote). Contains notes m) (sym is) (Contains-get_or notes j n low))
          (λ d. get_or_default notes j d n low ∙ sym is) p.long p.here p.others I.placed;
    }

pub returns-clause-placed : goal.returns-clause-placed
returns-clause-placed c =
    let l = c.loop-note in let I = l.invariant in
    all_placed c.args.base c.args.notes.now l.note-index l.receipts c.loop-note-test.false I.placed
