use Rattle.path_rule.proofs.laws.what_was_archived_is_droppable.Goals as goal

pub returns-clause-each : goal.returns-clause-each
returns-clause-each g c = λ o size s r ordinal h. r.filing.archived_may ordinal h

pub returns-clause-all : goal.returns-clause-all
returns-clause-all g c = λ o size s r all ordinal h. r.filing.all_archived all ordinal h

pub returns-clause-nothing : goal.returns-clause-nothing
returns-clause-nothing g c = λ o size s r none. r.filing.none_archived none
