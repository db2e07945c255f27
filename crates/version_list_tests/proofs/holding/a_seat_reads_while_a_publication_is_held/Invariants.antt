use Rattle.version_list_tests.proofs.holding.a_seat_reads_while_a_publication_is_held.Given as goal

-- the history and the ledger that were just opened
abbrev pub ghosts-beside-J-Naming : goal.ghosts-beside-J-Naming
ghosts-beside-J-Naming g a = record { book = a.history.seen.book }

abbrev pub ghosts-beside-L-Ledger : goal.ghosts-beside-L-Ledger
ghosts-beside-L-Ledger g a = record { name = a.made.name; parts = a.made.parts }
