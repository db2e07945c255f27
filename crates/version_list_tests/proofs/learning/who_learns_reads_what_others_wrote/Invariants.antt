use Rattle.version_list_tests.proofs.learning.who_learns_reads_what_others_wrote.Given as goal

-- the history and the ledger that were just opened
abbrev pub ghosts-both-J-Naming : goal.ghosts-both-J-Naming
ghosts-both-J-Naming g a = record { book = a.history.seen.book }

abbrev pub ghosts-both-L-Ledger : goal.ghosts-both-L-Ledger
ghosts-both-L-Ledger g a = record { name = a.made.name; parts = a.made.parts }
