use Rattle.std.proofs.Common.{◌++◌, length, sym, ap, ◌∙◌}
use Rattle.path_core.specs.Keeper.{Holding}
use Rattle.path_core.proofs.lists.Ascending.{same_ascending}
use Rattle.path_core.proofs.keeper_law.a_keeper_drops_one_list.Goals as goal

pub returns : goal.returns
returns c = λ before now other closed count others D E.
    let same = same_ascending D.ordinals E.ordinals D.ascending E.ascending
    (λ o h. (E.exact o).1 ((D.exact o).0 h)) (λ o h. (D.exact o).1 ((E.exact o).0 h)) in (
      ap (λ (k : Holding). k.dropped) D.holds ∙ ap (λ l. before.dropped ++ l) same
          ∙ sym (ap (λ (k : Holding). k.dropped) E.holds),
      D.counted ∙ ap length same ∙ sym E.counted,
    )
