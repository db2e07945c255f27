use Rattle.path_core.proofs.tables.EqualParts.{equal_wanted, equal_through, equal_retires}
use Rattle.path_core.proofs.holder_law.equal_parts_get_equal_answers.Goals as goal

pub returns-clause-wanted : goal.returns-clause-wanted
returns-clause-wanted c = λ x y v w law other same. equal_wanted x y v w law other same

pub returns-clause-through : goal.returns-clause-through
returns-clause-through c = λ x y v w t law other same tallies held.
    equal_through x y v w t law other same tallies held

pub returns-clause-retire : goal.returns-clause-retire
returns-clause-retire c = λ x y v w t law other same tallies newest oldest held.
    equal_retires x y v w t law other same tallies newest oldest held
