use Rattle.std.proofs.Common.{◌+◌, ◌∙◌, [], ◌∷◌, ◌++◌, take, sym, ap, subst}
use Rattle.std.proofs.lemmas.List.{take_more}
use Rattle.std.specs.List.{AllZip}
use Rattle.clog_disk.specs.Sample.{IsMadeFrom}
use Rattle.clog_disk.proofs.Samples.{zip_push}
use Rattle.clog_disk.proofs.memory.images.images_of.Goals as goal

pub loop-left-preserved : goal.loop-left-preserved
loop-left-preserved c =
    let past = c.args.past.now.entries in
    let items = c.deref-left-items.result.now in
    let i = c.loop-left.left-index in
    let made = c.loop-left.images.items in
    let image = c.in_ok-image.field-0 in
    subst (λ ys. AllZip (IsMadeFrom past) (take (i + 1) items) ys) (sym c.in_ok-push.ensures.items)
    (subst (λ xs. AllZip (IsMadeFrom past) xs (made ++ image ∷ []))
    (sym (take_more items i c.left-item.result c.loop-left-test.true
    ∙ ap (λ x. take i items ++ x ∷ []) (sym c.left-item.is)))
    (zip_push (IsMadeFrom past) (take i items) made _ image c.loop-left.invariant
    c.in_ok-image.ensures))
