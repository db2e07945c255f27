use Rattle.std.proofs.Common.{ℕ, List, Contains, refl, subst}
use Rattle.std.specs.Prelude.{◌↔◌, ◌⊎◌}
use Rattle.path_core.specs.declared.note.EntryNote.{EntryNote}
use Rattle.clog_due.specs.Dropping.{HasEntry}
use Rattle.clog_due.proofs.HeldSegments.{all_held, rest_of}
use Rattle.clog_due.proofs.counted.Counted.count.Goals as goal

pub returns : goal.returns
returns c =
    let s = c.args.self in
    let notes = c.args.notes.now in
    let dropped = c.args.dropped.now in
    let held = c.hold_all.new.held.items in
    let gone = c.in_ok-gone.gone.keys in
    let left = c.in_ok-all_left.field-0.items in
    record {
      entries_are = refl;
      files_are = refl;
      dropped_are = refl;
      held = all_held notes dropped s.entries s.dropped s.held.items held left gone
          c.requires.counted.held c.requires.counted.later
          (subst (λ (l : List EntryNote). (o : ℕ) → Contains held o
          ↔ (Contains s.held.items o ⊎ HasEntry l o)) (rest_of s.entries notes)
          c.in_ok-hold_all.ensures)
          (subst (λ (l : List ℕ). (o : ℕ) → Contains gone o ↔ Contains l o)
          (rest_of s.dropped dropped) c.in_ok-gone.ensures)
          (subst (λ (l : List ℕ). (o : ℕ) → Contains left o
          ↔ (Contains l o × (Contains gone o → ⊥))) c.deref.ensures.value
          c.in_ok-all_left.ensures);
      tables = c.in_ok-tables.ensures;
    }
