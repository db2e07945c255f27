use Rattle.std.proofs.Common.{◌≡◌, map, take}
use Rattle.std.specs.List.{filter}
use Rattle.path_core.specs.declared.note.EntryNote.{EntryNote}
use Rattle.path_core.specs.Next.{is_between}
use Rattle.path_machine.proofs.log_changes.ends_between.Given as goal

abbrev pub invariant-loop-note : goal.invariant-loop-note
invariant-loop-note l =
    l.ends.items ≡ map (λ (n : EntryNote). n.end.0)
    (filter (is_between l.lower l.upper) (take l.note-index l.notes))
