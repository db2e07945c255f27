-- Worked rows of a writer that flushes: writer 0 has logged one line, which has one update of table
-- 0, and behind it has flushed the table or not.
use Rattle.std.specs.Prelude.{ℕ, List, [], ◌∷◌, ◌++◌}
use Rattle.clog_crash.specs.Worked.{the_mutation}
use Rattle.clog_applied.specs.History.{Line}
use Rattle.clog_notes.specs.Entries.{entry_of}
use Rattle.path_core.specs.declared.note.EntryNote.{EntryNote}
use Rattle.path_rule.specs.declared.view.OwnStep.{OwnStep}
use Rattle.write_path.specs.FlushedRows.{flushed_at}
use Rattle.write_path.specs.SealedRows.{logged}

abbrev pub the_line : Line
the_line = record { number = 1; mutation = the_mutation }

-- its entry, of 32 bytes, behind the front of the first segment
abbrev pub the_note : EntryNote
the_note = record {
  start = record { 0 = 28 };
  end = record { 0 = 60 };
  tables = 1;
  line = 1;
  writer = record { 0 = 0 };
  bytes = entry_of the_mutation;
}

abbrev pub logged_one : List OwnStep
logged_one = logged the_note ∷ []

-- behind it memtable 0 was made final at a key, and retired
abbrev pub flushed_one : ℕ → List OwnStep
flushed_one key = flushed_at key ++ logged_one
