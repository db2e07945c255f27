-- Worked rows of writers that flush: table files that are wrong, and a segment that goes early.
use Rattle.std.specs.Prelude.{ℕ, [], ◌∷◌, List}
use Rattle.clog_disk.specs.declared.change.Change.{Change}
use Rattle.clog_disk.specs.declared.change.Change.TheVariants as change
use Rattle.clog_table.specs.declared.table_file.TableFile.{TableFile}
use Rattle.clog_applied.specs.Filed.{first_of}
use Rattle.clog_applied.specs.Worked.{comes, file_to, goes_in, goes_out, log_name, the_end}

-- it lacks the cell of the entry in its interval
abbrev pub hollow : TableFile
hollow = record (file_to the_end) { cells = [] }

abbrev pub hollow_changes : List Change
hollow_changes = goes_in ∷ comes hollow ∷ goes_out ∷ []

-- nothing is in its interval
abbrev pub for_nothing : TableFile
for_nothing = record (file_to (first_of 1000)) { cells = [] }

-- it is put over the file that holds the entry, and then the segment goes
abbrev pub overwritten_changes : List Change
overwritten_changes = goes_in ∷ comes (file_to the_end) ∷ comes for_nothing ∷ goes_out ∷ []

-- more is appended to the segment once it has gone
abbrev pub cut_off_changes : List ℕ → List Change
cut_off_changes more =
    goes_in ∷ comes (file_to the_end) ∷ goes_out ∷ change.Append log_name more ∷ []
