use Rattle.std.proofs.Common.{◌++◌, ◌∷◌, [], List, sym, ap, ◌∙◌, subst}
use Rattle.std.proofs.lemmas.List.{append-nil, append_assoc}
use Rattle.std.proofs.lemmas.List.Elements.{Contains-append_right}
use Rattle.std.specs.List.{Contains}
use Rattle.clog_base.proofs.Members.{here}
use Rattle.path_core.specs.declared.note.EntryNote.{EntryNote}
use Rattle.clog_memtable.specs.Gathering.{IsGathered}
use Rattle.clog_memtable.proofs.Gathered.{gathered_more}
use Rattle.clog_memtable.proofs.gathering.gather.Goals as goal

pub loop-note-init : goal.loop-note-init
loop-note-init c = record {
  done = [];
  parts = c.into_iter-note-iterator.ensures.into_iter_gives.0;
  gathered = λ before G. subst (λ (l : List EntryNote). IsGathered c.args.table l c.args.cells.now)
      (sym (append-nil before)) G;
}

pub loop-note-preserved : goal.loop-note-preserved
loop-note-preserved c = let I = c.loop-note.invariant in let n = c.in-Some.note.now in
    let new = c.put_note.new.cells in let rest = c.next.new.self in
    let parts = ap (λ l. I.done ++ l) (sym c.in-Some.ensures.steps) ∙ I.parts in
    let whole = c.requires n (subst (λ (l : List EntryNote). Contains l n) parts
    (Contains-append_right I.done (n ∷ rest) n (here n rest))) in record {
      done = I.done ++ n ∷ [];
      parts = append_assoc I.done (n ∷ []) rest ∙ parts;
      gathered = λ before G. subst (λ (l : List EntryNote). IsGathered c.args.table l new)
          (append_assoc before I.done (n ∷ []))
          (gathered_more c.args.table (before ++ I.done) n c.loop-note.cells new
          (I.gathered before G) whole (c.in_ok-put_note.ensures whole));
    }

pub returns : goal.returns
returns c = let I = c.loop-note.invariant in
    λ before G. subst (λ (l : List EntryNote).
    IsGathered c.args.table (before ++ l) c.loop-note.cells)
    (sym (append-nil I.done) ∙ (ap (λ l. I.done ++ l) (sym c.in-None.ensures.steps.0) ∙ I.parts))
    (I.gathered before G)
