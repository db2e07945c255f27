use Rattle.std.proofs.Common.{ℕ, List, Contains, sym, subst}
use Rattle.std.specs.Prelude.{◌↔◌}
use Rattle.path_core.specs.declared.note.EntryNote.{EntryNote}
use Rattle.clog_due.specs.Dropping.{HasEntry}
use Rattle.clog_store.proofs.kept.Kept.ordinals.Goals as goal

pub returns : goal.returns
returns c =
    subst (λ (l : List ℕ). (o : ℕ) → Contains l o ↔ HasEntry c.args.self.now o)
    (sym c.deref.ensures.value)
    (subst (λ (l : List EntryNote). (o : ℕ) → Contains c.self.inside.ordinals.items o
    ↔ HasEntry l o) c.self.view_is c.self.invariant)
