-- What a seat wrote, read off its trail.
use Rattle.std.specs.Prelude.{List, [], ◌∷◌}
use Rattle.path_core.specs.declared.event.Carried.TheVariants.{Deposit}
use Rattle.path_core.specs.declared.event.Event.{Event}
use Rattle.path_core.specs.declared.event.Event.TheVariants.{Close}
use Rattle.path_core.specs.declared.note.EntryNote.{EntryNote}
use Rattle.path_rule.specs.declared.view.OwnStep.{OwnStep}

-- the list of a seat's own writes: the notes that it deposited, the newest first
abbrev pub with_write : Event → List EntryNote → List EntryNote
with_write (Close by order group (Deposit note)) writes = note ∷ writes
with_write _ writes = writes

abbrev pub writes_of : List OwnStep → List EntryNote
writes_of [] = []
writes_of (t ∷ ts) = with_write t.event (writes_of ts)
