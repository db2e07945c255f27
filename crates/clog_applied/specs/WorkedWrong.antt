-- Worked lists that no run leaves, beside those of Worked: lines in the wrong order or by the wrong
-- writer, a table file that lacks a cell, and a receipt of the entry's start.
use Rattle.std.specs.Prelude.{ℕ, ◌+◌, List, [], ◌∷◌, ◌++◌}
use Rattle.clog_mutation.specs.declared.mutation.Mutation.{Mutation}
use Rattle.clog_table.specs.declared.table_file.TableFile.{TableFile}
use Rattle.clog_crash.specs.Worked.{the_mutation}
use Rattle.clog_applied.specs.History.{LoggedLine}
use Rattle.clog_applied.specs.Printed.{applied_line, receipt_line}
use Rattle.clog_applied.specs.Worked.{file_to, the_end}

abbrev pub three_lines : List Mutation
three_lines = the_mutation ∷ the_mutation ∷ the_mutation ∷ []

-- a line that a writer logs from an offset on
abbrev pub line_by : ℕ → ℕ → ℕ → LoggedLine
line_by writer number start = record {
  writer = writer;
  number = number;
  id = 1000;
  start = start;
  end = start + 32;
  mutation = the_mutation;
}

-- Two writers log three lines: the odd ones are the second writer's, and it logs the later one
-- first.
abbrev pub out_of_order : List LoggedLine
out_of_order = line_by 1 3 28 ∷ line_by 0 2 60 ∷ line_by 1 1 92 ∷ []

-- each of two writers logs the other's line
abbrev pub by_the_other : List LoggedLine
by_the_other = line_by 0 1 28 ∷ line_by 1 2 60 ∷ []

-- the drained line's table file without its cell
abbrev pub without_cell : TableFile
without_cell = record (file_to the_end) { cells = [] }

-- the line's receipt names the offset at which its entry starts
abbrev pub start_told : List ℕ
start_told = applied_line 1 ++ receipt_line 1 1000 28
