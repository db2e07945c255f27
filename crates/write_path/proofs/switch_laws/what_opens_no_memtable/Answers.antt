use Rattle.path_flush.proofs.StepsOpen.{none_opened, opens_both, round_opens}
use Rattle.write_path.proofs.switch_laws.what_opens_no_memtable.Goals as goal

pub returns-clause-unswitched : goal.returns-clause-unswitched
returns-clause-unswitched c = none_opened

pub returns-clause-synced : goal.returns-clause-synced
returns-clause-synced c = λ w t opened v after a S.
    round_opens w t S.answers.steps.steps S.answers.steps.are

pub returns-clause-both : goal.returns-clause-both
returns-clause-both c = opens_both
