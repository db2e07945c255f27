use Rattle.path_core.proofs.log.EntrySinceMarker.{entry_since_marker, entry_before_markers}
use Rattle.path_core.proofs.holder_law.the_log_key_tells_of_entries_since_a_marker.Goals as goal

pub returns-clause-behind : goal.returns-clause-behind
returns-clause-behind c = λ x claim law h. entry_since_marker x law claim h

pub returns-clause-first : goal.returns-clause-first
returns-clause-first c = λ x law none. entry_before_markers x law none
