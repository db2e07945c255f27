use Rattle.path_rule.proofs.laws.a_stopped_log_tells_a_count_that_has_risen.Goals as goal

pub returns : goal.returns
returns g c = λ o size s r. r.risen
