use Rattle.path_rule.specs.Lasts.{shows_of}
use Rattle.path_rule.proofs.log.FilingStays.{dropped_below, dropped_is_droppable}
use Rattle.path_rule.proofs.moves.Moving.{core_lawful}
use Rattle.path_rule.proofs.laws.what_was_dropped_is_droppable.Goals as goal

pub returns : goal.returns
returns g c = λ o size s r ordinal h.
    let L = core_lawful (shows_of g.K.Keeper.holds) o size s r in (
      dropped_is_droppable r.core L size r.filed r.dropped r.filing ordinal h,
      dropped_below r.core L size r.filed r.dropped r.filing ordinal h,
    )
