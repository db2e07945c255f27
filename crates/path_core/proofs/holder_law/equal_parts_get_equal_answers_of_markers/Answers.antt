use Rattle.path_core.proofs.log.MarkerTells.{
  equal_markers_wanted,
  equal_synced,
  equal_entry_last,
}
use Rattle.path_core.proofs.holder_law.equal_parts_get_equal_answers_of_markers.Goals as goal

pub returns-clause-wanted : goal.returns-clause-wanted
returns-clause-wanted c = λ x y v w law other same. equal_markers_wanted x y law other v w same

pub returns-clause-synced : goal.returns-clause-synced
returns-clause-synced c = λ x y v w kept law other same tallies h.
    equal_synced x y law other v w same kept tallies h

pub returns-clause-claimed : goal.returns-clause-claimed
returns-clause-claimed c = λ x y v w turn law other same capacity log h.
    equal_entry_last x y law other v w same turn capacity log h
