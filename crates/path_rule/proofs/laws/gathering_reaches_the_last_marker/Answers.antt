use Rattle.path_rule.proofs.boxes.AllGathered.{gathered_up_to_last}
use Rattle.path_rule.proofs.moves.Moving.{core_lawful}
use Rattle.path_rule.specs.Lasts.{shows_of}
use Rattle.path_rule.proofs.laws.gathering_reaches_the_last_marker.Goals as goal

pub returns : goal.returns
returns g c = λ o size s r. gathered_up_to_last (shows_of g.K.Keeper.holds) o size size.at_open
    r.kept_to r.filed r.dropped s.homes s.views r.core
    (core_lawful (shows_of g.K.Keeper.holds) o size s r) r.boxed
