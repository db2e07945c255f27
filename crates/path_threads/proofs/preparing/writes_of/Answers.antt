use Rattle.std.proofs.Common.{sym, subst}
use Rattle.std.proofs.lemmas.List.Elements.{All-nil, All-push}
use Rattle.path_threads.specs.Crews.{AreWrites, IsWrite}
use Rattle.path_threads.proofs.preparing.writes_of.Goals as goal

pub loop-place-init : goal.loop-place-init
loop-place-init c = subst (AreWrites c.args.sizes) (sym c.new-writes.ensures.items)
    (All-nil (IsWrite c.args.sizes))

pub loop-place-preserved : goal.loop-place-preserved
loop-place-preserved c = subst (AreWrites c.args.sizes) (sym c.in_ok-push.ensures.items)
    (All-push (IsWrite c.args.sizes) c.loop-place.writes.items c.in_ok-write.write
    c.loop-place.invariant c.in_ok-write.ensures)
