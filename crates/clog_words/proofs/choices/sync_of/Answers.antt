use Rattle.sync_core.specs.declared.SyncCore.TheVariants.{Batch, Periodic}
use Rattle.clog_words.specs.declared.choices.Mode.TheVariants.{
  Batch as BatchMode,
  Periodic as PeriodicMode,
}
use Rattle.clog_words.proofs.choices.sync_of.Goals as goal

pub returns-in_default : goal.returns-in_default
returns-in_default c Batch asked = c.in_default.ensures BatchMode asked.0
returns-in_default c (Periodic period) asked = c.in_default.ensures PeriodicMode asked.0
