use Rattle.path_rule.proofs.moves.Moving.{core_lawful}
use Rattle.path_rule.specs.Lasts.{shows_of}
use Rattle.path_rule.proofs.laws.the_table_shows_a_lawful_state.Goals as goal

pub returns : goal.returns
returns g c = λ o size s r. core_lawful (shows_of g.K.Keeper.holds) o size s r
