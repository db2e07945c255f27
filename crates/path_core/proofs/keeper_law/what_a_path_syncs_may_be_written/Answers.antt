use Rattle.path_core.specs.declared.event.Cursor.TheVariants.{Synced}
use Rattle.path_core.specs.declared.event.Event.TheVariants.{Put}
use Rattle.path_core.proofs.lent.Writable.{may_write}
use Rattle.path_core.proofs.runs.Loosened.{loosened}
use Rattle.path_core.proofs.keeper_law.what_a_path_syncs_may_be_written.Goals as goal

pub returns : goal.returns
returns c = λ x by value h L a A K.
    may_write x L by value (loosened x (Put by Synced value) a) h A K
