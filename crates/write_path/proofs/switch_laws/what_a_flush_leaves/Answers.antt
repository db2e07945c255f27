use Rattle.write_path.proofs.FlushOwn.{finalises_own, retires_own}
use Rattle.path_flush.proofs.StepsOpen.{others_open}
use Rattle.write_path.proofs.switch_laws.what_a_flush_leaves.Goals as goal

pub returns-clause-finals : goal.returns-clause-finals
returns-clause-finals c = λ w t u m key n v after. finalises_own w t u m key v after

pub returns-clause-retired : goal.returns-clause-retired
returns-clause-retired c = λ w t n u m gave v after. retires_own w t u m gave v after

pub returns-clause-opened : goal.returns-clause-opened
returns-clause-opened c = λ w t u n v after. others_open w t u v after
