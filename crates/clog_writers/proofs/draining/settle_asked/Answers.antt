use Rattle.std.proofs.Common.{sym, ◌∙◌}
use Rattle.std.proofs.lemmas.Bool.{true≢false}
use Rattle.std.proofs.lemmas.List.Elements.{Contains-append_left}
use Rattle.clog_segments.specs.StoreState.{holding_of}
use Rattle.clog_writers.proofs.Settling.{unasked}
use Rattle.clog_writers.proofs.Told.{none_of}
use Rattle.clog_writers.proofs.draining.settle_asked.Goals as goal
use Rattle.clog_writers.proofs.draining.settle_asked.Goals.{then-drain, else-drain}

pub returns-then-not-wanted-clause-ok : goal.returns-then-not-wanted-clause-ok
returns-then-not-wanted-clause-ok g c = λ none.
    let D = g.D.Disk in
    let store = c.args.store.now in
    let notes = store.notes in
    elim c.if-drain.branch [
      | then-drain w ↦ absurd (true≢false
          (sym w.if-drain.true ∙ sym w.wanted-is ∙ c.if-not-wanted.true))
      | else-drain w ↦ (
        none_of c.args.fault (sym c.is_some.ensures ∙ c.if-is_some.false),
        unasked (holding_of D.files D.changes D.moment D.faults g.row.D.coded.code store)
            c.args.drain w.if-drain.false
            (c.requires.alone (sym w.wanted-is ∙ c.if-not-wanted.true))
            (λ n among. (c.fault_count-now.ensures.noted.good n
            (Contains-append_left notes.logged notes.kept n among)).whole),
      )
    ]
