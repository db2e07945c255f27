use Rattle.std.proofs.Common.{ℕ, List, ◌∙◌, ap, subst}
use Rattle.clog_spec.specs.Sizes.{most_tables}
use Rattle.path_core.specs.declared.note.EntryNote.{EntryNote}
use Rattle.path_core.specs.Keeper.{upper_from}
use Rattle.clog_memtable.specs.Touched.{AreMemtablesOf, key_for}
use Rattle.clog_layout.specs.Ends.{synced_to}
use Rattle.clog_writers.proofs.Settling.{same_lowers}
use Rattle.clog_base.proofs.Follows.{if_ok}
use Rattle.clog_writers.proofs.draining.left_to_put.Goals as goal

pub returns-clause-all : goal.returns-clause-all
returns-clause-all g c = λ drained.
    let store = c.args.store.now in
    let logged = store.notes.logged in
    let lowers = key_for c.filed_to-lowers.result in
    let ends = c.end_of.ensures ∙ ap synced_to c.logged-2.ensures in
    if_ok c.memtables_of.result _ (λ ms. AreMemtablesOf logged
    (λ (t : ℕ). upper_from t 0 store.files) (synced_to logged) most_tables ms.items)
    c.memtables_of.ensures (λ ms are.
    same_lowers logged lowers (λ (t : ℕ). upper_from t 0 store.files) (synced_to logged)
    most_tables ms.items (λ t low. c.filed_to-lowers.ensures t low)
    (subst (λ (k : ℕ). AreMemtablesOf logged lowers k most_tables ms.items) ends
    (subst (λ (l : List EntryNote). AreMemtablesOf l lowers c.end_of.result.0 most_tables ms.items)
    c.logged.ensures are)))
