use Rattle.std.proofs.Common.{sym, subst}
use Rattle.std.proofs.lemmas.List.Elements.{All-nil}
use Rattle.path_threads.specs.Crews.{AreWrites, IsWrite}
use Rattle.path_threads.proofs.preparing.all_or_none.Goals as goal

pub returns-in-Err : goal.returns-in-Err
returns-in-Err c = subst (AreWrites c.args.sizes) (sym c.new.ensures.items)
    (All-nil (IsWrite c.args.sizes))
