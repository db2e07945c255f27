use Rattle.std.proofs.Common.{◌≡◌, [], ◌∷◌, ◌++◌, sym, ◌∙◌, subst, arith}
use Rattle.clog_spec.specs.Sizes.{most_tables}
use Rattle.write_path.proofs.NoteCopies.{copies_below, one_more, passed}
use Rattle.write_path.proofs.copies.copies_of.Goals as goal
use Rattle.write_path.proofs.copies.copies_of.Goals.{
  then-touches+in_ok-copy_of+in_ok-push_back,
  else-touches,
}

pub loop-table-preserved : goal.loop-table-preserved
loop-table-preserved c =
    let l = c.loop-table in
    let n = c.args.note.now in
    elim c.if-touches.branch [
      | then-touches+in_ok-copy_of+in_ok-push_back w ↦
          w.copies-is ∙ (w.in_ok-push_back.ensures.items
          ∙ (λ i. l.invariant i ++ w.in_ok-copy_of.ensures i ∷ [])
          ∙ sym (one_more n l.table (sym c.touches.ensures ∙ w.if-touches.true)))
      | else-touches w ↦
          w.copies-is ∙ (l.invariant
          ∙ sym (passed n l.table (sym c.touches.ensures ∙ w.if-touches.false)))
    ]

pub returns : goal.returns
returns c =
    let l = c.loop-table in
    let end : l.table ≡ most_tables =
    (let low = l.auto.table-end in let high = c.loop-table-test.false in omega (arith, low, high))
    in
    subst (λ t. l.copies ≡ copies_below c.args.note.now t) end l.invariant
