use Rattle.write_path.proofs.OnlyFlushes.{commit_keeps, row_retires, row_switches, sync_keeps}
use Rattle.write_path.proofs.switch_laws.only_flushes_retire.Goals as goal

pub returns-clause-committed : goal.returns-clause-committed
returns-clause-committed c = commit_keeps

pub returns-clause-synced : goal.returns-clause-synced
returns-clause-synced c = sync_keeps

pub returns-clause-flushed : goal.returns-clause-flushed
returns-clause-flushed c = row_retires

pub returns-clause-switched : goal.returns-clause-switched
returns-clause-switched c = row_switches
