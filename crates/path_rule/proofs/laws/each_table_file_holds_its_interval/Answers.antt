use Rattle.path_rule.proofs.laws.each_table_file_holds_its_interval.Goals as goal

pub returns : goal.returns
returns g c = λ o size s r f. r.filing.merged f
