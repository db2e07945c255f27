-- Worked rows: three lines, of which writer 1 has the first and the third and writer 0 the second,
-- and histories of them.
use Rattle.std.specs.Prelude.{ℕ, ◌+◌, List, [], ◌∷◌}
use Rattle.clog_mutation.specs.declared.mutation.Mutation.{Mutation}
use Rattle.clog_crash.specs.Worked.{the_mutation}
use Rattle.clog_applied.specs.History.{LoggedLine}

abbrev pub three_lines : List Mutation
three_lines = the_mutation ∷ the_mutation ∷ the_mutation ∷ []

-- a line that a writer logged from an offset on
abbrev pub line_by : ℕ → ℕ → ℕ → LoggedLine
line_by writer number start = record {
  writer = writer;
  number = number;
  id = 1000;
  start = start;
  end = start + 32;
  mutation = the_mutation;
}

abbrev pub second_alone : List LoggedLine
second_alone = line_by 0 2 28 ∷ []

abbrev pub all_three : List LoggedLine
all_three = line_by 0 2 28 ∷ line_by 1 1 60 ∷ line_by 1 3 92 ∷ []

-- the third line without the first
abbrev pub third_early : List LoggedLine
third_early = line_by 0 2 28 ∷ line_by 1 3 60 ∷ []

-- the second line, written by the writer of the others
abbrev pub by_another : List LoggedLine
by_another = line_by 1 2 28 ∷ []
