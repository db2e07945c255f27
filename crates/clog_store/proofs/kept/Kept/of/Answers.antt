use Rattle.std.proofs.Common.{ℕ, List, Contains, sym, ap, ◌∙◌, subst}
use Rattle.std.specs.Prelude.{◌↔◌, ◌⊎◌}
use Rattle.path_core.specs.declared.note.EntryNote.{EntryNote}
use Rattle.clog_due.specs.Dropping.{HasEntry}
use Rattle.clog_due.proofs.HeldSegments.{held_alone}
use Rattle.clog_store.proofs.kept.Kept.of.Goals as goal

pub invariant_of-result : goal.invariant_of-result
invariant_of-result c =
    let held = c.hold_all.new.held.items in
    subst (λ (l : List EntryNote). (o : ℕ) → Contains held o ↔ HasEntry l o)
    (c.deref.ensures.value ∙ sym (ap (λ v. v.items) c.of.ensures))
    (held_alone held c.deref.result.now
    (subst (λ (l : List ℕ). (o : ℕ) → Contains held o
    ↔ (Contains l o ⊎ HasEntry c.deref.result.now o)) c.new-ordinals.ensures.items
    c.in_ok-hold_all.ensures))
