use Rattle.std.proofs.Common.{◌≡◌, ℕ, List, Contains, sym, ap, ◌∙◌, subst}
use Rattle.std.specs.Prelude.{◌↔◌}
use Rattle.path_core.specs.declared.note.EntryNote.{EntryNote}
use Rattle.path_core.specs.Keeper.{PutFile}
use Rattle.clog_due.specs.Counting.{IsAllCounted}
use Rattle.clog_due.specs.Dropping.{ArePlaced, HasEntry}
use Rattle.clog_segments.specs.StoreState.{StoreState}
use Rattle.clog_due.proofs.NotePlaced.{logged_placed}
use Rattle.clog_store.proofs.States.{state_of}
use Rattle.clog_store.proofs.store.Store.due_counted.Goals as goal

pub returns-clause-due : goal.returns-clause-due
returns-clause-due g c h beside =
    let i = c.self.inside in
    let s = state_of c.self.view_is in
    let counted = c.in_ok-counted.counted in
    let own : s ≡ c.args.self.now = c.self.view_is ∙ c.count_all.ensures.same in
    let all = c.in_ok-counted.ensures.counted in
    c.in_ok-due.ensures h
    (subst ArePlaced (ap (λ (x : StoreState g.row.D.Denot). x.notes.logged) own
    ∙ sym beside.log.logged_are) (logged_placed i.notes c.kept_ordinals.ensures.noted))
    (subst (λ (l : List EntryNote). IsAllCounted l h.files h.dropped counted)
    (sym beside.log.logged_are)
    (subst (λ (l : List PutFile).
    IsAllCounted c.args.self.now.notes.logged l h.dropped counted) (sym beside.files_are)
    (subst (λ (l : List ℕ).
    IsAllCounted c.args.self.now.notes.logged c.args.self.now.files l counted)
    (sym beside.dropped_are) all)))
    (subst (λ (l : List EntryNote). (o : ℕ) → Contains c.kept_ordinals.result.now o ↔ HasEntry l o)
    (ap (λ (x : StoreState g.row.D.Denot). x.notes.kept) own ∙ sym beside.log.kept_are)
    c.kept_ordinals.ensures.kept)
