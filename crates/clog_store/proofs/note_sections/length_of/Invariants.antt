use Rattle.std.proofs.Common.{◌≡◌, ◌+◌, drop, length}
use Rattle.clog_segments.specs.NoteSections.{bytes_in}
use Rattle.clog_store.proofs.note_sections.length_of.Given as goal

abbrev pub invariant-loop-note : goal.invariant-loop-note
invariant-loop-note l =
    l.long + length (bytes_in (drop l.note-index l.notes)) ≡ length (bytes_in l.notes)
