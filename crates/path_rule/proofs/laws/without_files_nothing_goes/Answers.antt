use Rattle.path_rule.specs.Lasts.{shows_of}
use Rattle.path_rule.proofs.log.NoneDropped.{none_dropped}
use Rattle.path_rule.proofs.moves.Moving.{core_lawful}
use Rattle.path_rule.proofs.laws.without_files_nothing_goes.Goals as goal

pub returns : goal.returns
returns g c = λ o size s r plain. let P = r.filing.plain plain in (
  P.0,
  none_dropped r.core (core_lawful (shows_of g.K.Keeper.holds) o size s r) P.0,
  P.1,
  P.2,
)
