use Rattle.write_path.proofs.AnswerPromises.{answer_covered, answer_filed, answer_voided}
use Rattle.write_path.proofs.FlushPromises.{flushed_filed}
use Rattle.write_path.proofs.Promises.{done_logged, durable_apart, durable_logged, durable_marked}
use Rattle.write_path.proofs.RetirePromises.{emptied_kept, final_kept, given_kept}
use Rattle.write_path.proofs.laws.what_close_keeps.Goals as goal

pub returns-clause-durable : goal.returns-clause-durable
returns-clause-durable g c = durable_logged

pub returns-clause-marked : goal.returns-clause-marked
returns-clause-marked g c = durable_marked

pub returns-clause-done : goal.returns-clause-done
returns-clause-done g c = done_logged

pub returns-clause-apart : goal.returns-clause-apart
returns-clause-apart g c = durable_apart

pub returns-clause-flushed : goal.returns-clause-flushed
returns-clause-flushed g c = flushed_filed

pub returns-clause-finals : goal.returns-clause-finals
returns-clause-finals g c = final_kept

pub returns-clause-emptied : goal.returns-clause-emptied
returns-clause-emptied g c = emptied_kept

pub returns-clause-given : goal.returns-clause-given
returns-clause-given g c = given_kept

pub returns-clause-covered : goal.returns-clause-covered
returns-clause-covered g c = answer_covered

pub returns-clause-filed : goal.returns-clause-filed
returns-clause-filed g c = answer_filed

pub returns-clause-voided : goal.returns-clause-voided
returns-clause-voided g c = answer_voided
