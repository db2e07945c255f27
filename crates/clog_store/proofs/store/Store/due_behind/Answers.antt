use Rattle.std.proofs.Common.{ℕ, List, sym, subst}
use Rattle.clog_segments.specs.Life.{LivesOn}
use Rattle.clog_due.specs.StoreDrops.{AreDueIn, AreEarlier}
use Rattle.clog_segments.specs.StoreState.{StoreState}
use Rattle.clog_store.specs.StoreTakes.{StandsBehind}
use Rattle.clog_segments.proofs.Lived.{lives_still}
use Rattle.clog_store.proofs.store.Store.due_behind.Goals as goal

pub go_behind-requires-clause-due : goal.go_behind-requires-clause-due
go_behind-requires-clause-due g c =
    let closed = c.args.closed in
    let os = c.deref.result.now in (
      closed,
      subst (λ (x : StoreState g.row.D.Denot). AreDueIn x closed os) (sym c.due_below.ensures.same)
          (subst (λ (l : List ℕ). AreDueIn c.args.self.now closed l) (sym c.deref.ensures.value)
          c.in_ok-due.ensures.due),
    )

pub returns-in_err-due-clause-lives : goal.returns-in_err-due-clause-lives
returns-in_err-due-clause-lives g c lives =
    let D = g.D.Disk in
    let log = c.args.self.now.notes.log in
    subst (λ (x : StoreState g.row.D.Denot). LivesOn D.files D.moment D.since D.leaves D.read_at
    D.lasted_at log x.notes.log) (sym c.due_below.ensures.same)
    (lives_still D.files D.moment D.since D.leaves D.read_at D.lasted_at log
    (g.met.D.Disk.only_now log.disk) lives)

pub returns-clause-earlier : goal.returns-clause-earlier
returns-clause-earlier g c =
    subst (AreEarlier c.go_behind.new.self.notes) c.deref.ensures.value
    c.in_ok-go_behind.ensures.earlier

pub returns-clause-behind : goal.returns-clause-behind
returns-clause-behind g c =
    subst (λ (x : StoreState g.row.D.Denot). StandsBehind x.notes c.go_behind.new.self.notes
    c.in_ok-due.due.items) c.due_below.ensures.same
    (subst (StandsBehind c.due_below.new.self.notes c.go_behind.new.self.notes)
    c.deref.ensures.value c.in_ok-go_behind.ensures.behind)
