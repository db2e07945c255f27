use Rattle.std.proofs.Common.{◌≡◌, ◌++◌, List}
use Rattle.path_core.specs.declared.note.EntryNote.{EntryNote}
use Rattle.clog_memtable.specs.Gathering.{IsGathered}
use Rattle.clog_memtable.proofs.gathering.gather.Given as goal

-- what was gathered, and what is left, are the whole
abbrev pub invariant-loop-note : goal.invariant-loop-note
invariant-loop-note l = record {
  done : List EntryNote;
  parts : done ++ l.note-iterator ≡ l.notes;
  gathered : (before : List EntryNote) → IsGathered l.table before l.initial.cells
      → IsGathered l.table (before ++ done) l.cells;
}
