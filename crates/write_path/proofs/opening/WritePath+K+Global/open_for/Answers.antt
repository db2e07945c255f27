use Rattle.std.proofs.Common.{refl, sym, subst}
use Rattle.path_rule.specs.declared.view.PathSize.{PathSize}
use Rattle.path_rule.specs.Lasts.{IsNew}
use Rattle.write_path.proofs.opening.WritePath+K+Global.open_for.Goals as goal

pub open-requires-clause-keeper : goal.open-requires-clause-keeper
open-requires-clause-keeper g c =
    subst (λ (z : PathSize). IsNew z (g.K.Keeper.holds c.args.keeper)) (sym c.size_for-size.ensures)
    (c.args.sizes, c.requires.fresh, refl, refl, sym c.at_open.ensures, refl)
