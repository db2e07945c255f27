use Rattle.std.proofs.Common.{◌≡◌, ◌++◌, drop}
use Rattle.clog_segments.specs.NoteSections.{bytes_in}
use Rattle.clog_store.proofs.note_sections.push_entries.Given as goal

abbrev pub invariant-loop-note : goal.invariant-loop-note
invariant-loop-note l =
    l.bytes.items ++ bytes_in (drop l.note-index l.notes) ≡ l.fn.bytes.items ++ bytes_in l.notes
