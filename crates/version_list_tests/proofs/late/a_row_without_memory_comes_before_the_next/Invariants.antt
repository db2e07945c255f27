use Rattle.version_list_tests.proofs.late.a_row_without_memory_comes_before_the_next.Given as goal

-- the history and the ledger that were just opened
abbrev pub ghosts-late-J-Naming : goal.ghosts-late-J-Naming
ghosts-late-J-Naming g a = record { book = a.history.seen.book }

abbrev pub ghosts-late-L-Ledger : goal.ghosts-late-L-Ledger
ghosts-late-L-Ledger g a = record { name = a.made.name; parts = a.made.parts }
