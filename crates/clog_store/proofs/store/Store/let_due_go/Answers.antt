use Rattle.std.proofs.Common.{ℕ, ◌∙◌, List, sym, subst, arith}
use Rattle.std.specs.Prelude.{Err, Ok}
use Rattle.clog_due.specs.Dropping.{AreDue}
use Rattle.clog_due.specs.StoreDrops.{AreDueIn, AreEarlier}
use Rattle.clog_segments.specs.StoreState.{holding_of}
use Rattle.clog_store.specs.StoreTakes.{StandsBehind}
use Rattle.clog_due.proofs.DroppedLists.{few_below}
use Rattle.clog_segments.proofs.Lived.{lives_further}
use Rattle.clog_due.proofs.StoreDropped.{
  all_dropped,
  due_on,
  let_go_on,
  none_dropped,
  own_beside,
  refused_any,
  some_dropped,
}
use Rattle.clog_store.proofs.StoreTaking.{taking_dropped, taking_moved, taking_refused, taking_some}
use Rattle.clog_store.proofs.store.Store.let_due_go.Goals as goal

pub let_go-requires-clause-due : goal.let_go-requires-clause-due
let_go-requires-clause-due g c =
    let m = c.due_behind.new.self in (
      c.args.closed,
      subst (AreDueIn m c.args.closed) (sym c.deref.ensures.value)
          (due_on c.args.self.now m c.args.closed c.in_ok-due.due.items c.due_behind.ensures.moved
          c.in_ok-due.ensures.due),
    )

pub let_go-requires-clause-earlier : goal.let_go-requires-clause-earlier
let_go-requires-clause-earlier g c =
    subst (AreEarlier c.due_behind.new.self.notes) (sym c.deref.ensures.value)
    c.in_ok-due.ensures.earlier

-- ---- nothing has gone

pub returns-in_err-due-clause-drops : goal.returns-in_err-due-clause-drops
returns-in_err-due-clause-drops g c =
    let D = g.D.Disk in
    let s = c.args.self.now in
    let m = c.due_behind.new.self in
    refused_any (holding_of D.files D.changes D.moment D.faults g.row.D.coded.code s)
    (holding_of D.files D.changes D.moment D.faults g.row.D.coded.code m) c.args.closed
    c.from_residual.result c.from_residual.ensures.0
    (none_dropped D.files D.changes D.moment D.faults g.row.D.coded.code s m c.args.closed
    c.due_behind.ensures.moved)

-- ---- the first have

pub returns-in_err-let_go-clause-drops : goal.returns-in_err-let_go-clause-drops
returns-in_err-let_go-clause-drops g c =
    let D = g.D.Disk in
    let s = c.args.self.now in
    let m = c.due_behind.new.self in
    let t = c.let_go.new.self in
    let os = c.deref.result.now in
    let held = holding_of D.files D.changes D.moment D.faults g.row.D.coded.code s in
    let due = subst (λ (l : List ℕ). AreDue held c.args.closed l) (sym c.deref.ensures.value)
    (c.in_ok-due.ensures.due held
    (own_beside D.files D.changes D.moment D.faults g.row.D.coded.code s t c.args.closed)) in
    refused_any held (holding_of D.files D.changes D.moment D.faults g.row.D.coded.code t)
    c.args.closed c.from_residual-in_err-let_go.result
    c.from_residual-in_err-let_go.ensures.0
    (some_dropped D.files D.changes D.moment D.faults g.row.D.coded.code s t c.args.closed os due
    c.requires.runs {T = Unit {0}} c.in_err-let_go.field-0.0
    (let_go_on {T = Unit {0}} s m t os (Err c.in_err-let_go.field-0.0) c.due_behind.ensures.moved
    c.in_err-let_go.ensures.goes))

pub returns-in_err-let_go-clause-lives : goal.returns-in_err-let_go-clause-lives
returns-in_err-let_go-clause-lives g c lives =
    let D = g.D.Disk in
    let s = c.args.self.now in
    let m = c.due_behind.new.self in
    let t = c.let_go.new.self in
    let on = c.due_behind.ensures.lives lives in
    lives_further D.files D.moment D.since D.leaves D.read_at D.lasted_at s.notes.log m.notes.log
    t.notes.log lives.began on (c.let_go.ensures.lives on.lives)

-- ---- all have

pub overflow_cast-result : goal.overflow_cast-result
overflow_cast-result g c =
    let D = g.D.Disk in
    let s = c.args.self.now in
    let m = c.due_behind.new.self in
    let t = c.let_go.new.self in
    let os = c.deref.result.now in
    let held = holding_of D.files D.changes D.moment D.faults g.row.D.coded.code s in
    let due = subst (λ (l : List ℕ). AreDue held c.args.closed l) (sym c.deref.ensures.value)
    (c.in_ok-due.ensures.due held
    (own_beside D.files D.changes D.moment D.faults g.row.D.coded.code s t c.args.closed)) in
    let few = few_below c.args.closed os due.ascending
    (λ o among. ((due.exact o).0 among).0) in
    omega (arith, few, c.ranges.closed.fits, c.len.ensures, c.deref.ensures.len)

pub returns-clause-drops : goal.returns-clause-drops
returns-clause-drops g c =
    let D = g.D.Disk in
    let s = c.args.self.now in
    let m = c.due_behind.new.self in
    let t = c.let_go.new.self in
    let os = c.deref.result.now in
    let held = holding_of D.files D.changes D.moment D.faults g.row.D.coded.code s in
    let due = subst (λ (l : List ℕ). AreDue held c.args.closed l) (sym c.deref.ensures.value)
    (c.in_ok-due.ensures.due held
    (own_beside D.files D.changes D.moment D.faults g.row.D.coded.code s t c.args.closed)) in
    all_dropped D.files D.changes D.moment D.faults g.row.D.coded.code s t c.args.closed os due
    c.requires.runs {T = Unit {0}} c.in_ok-let_go.field-0
    (let_go_on {T = Unit {0}} s m t os (Ok c.in_ok-let_go.field-0) c.due_behind.ensures.moved
    c.in_ok-let_go.ensures.goes) c.in_ok-let_go.ensures.stops c.len.result
    (c.len.ensures ∙ sym c.deref.ensures.len)

pub returns-clause-lives : goal.returns-clause-lives
returns-clause-lives g c lives =
    let D = g.D.Disk in
    let s = c.args.self.now in
    let m = c.due_behind.new.self in
    let t = c.let_go.new.self in
    let on = c.due_behind.ensures.lives lives in
    lives_further D.files D.moment D.since D.leaves D.read_at D.lasted_at s.notes.log m.notes.log
    t.notes.log lives.began on (c.let_go.ensures.lives on.lives)

-- ---- what comes next is taken

pub returns-in_err-due-clause-takes : goal.returns-in_err-due-clause-takes
returns-in_err-due-clause-takes g c =
    taking_refused c.args.self.now c.due_behind.new.self c.args.closed c.from_residual.result
    c.from_residual.ensures.0 (λ apart. taking_moved c.args.self.now c.due_behind.new.self
    c.due_behind.ensures.moved c.in_err-due.ensures.still)

pub returns-in_err-let_go-clause-takes : goal.returns-in_err-let_go-clause-takes
returns-in_err-let_go-clause-takes g c =
    let s = c.args.self.now in
    let m = c.due_behind.new.self in
    let t = c.let_go.new.self in
    let os = c.deref.result.now in
    let due = subst (AreDueIn s c.args.closed) (sym c.deref.ensures.value)
    c.in_ok-due.ensures.due in
    let behind = subst (StandsBehind s.notes m.notes) (sym c.deref.ensures.value)
    c.in_ok-due.ensures.behind in
    taking_refused s t c.args.closed c.from_residual-in_err-let_go.result
    c.from_residual-in_err-let_go.ensures.0
    (taking_some {T = Unit {0}} s m t c.args.closed os due c.due_behind.ensures.moved behind
    (Err c.in_err-let_go.field-0.0) c.in_err-let_go.ensures.goes c.let_go.ensures.still)

pub returns-clause-takes : goal.returns-clause-takes
returns-clause-takes g c =
    let s = c.args.self.now in
    let m = c.due_behind.new.self in
    let t = c.let_go.new.self in
    let os = c.deref.result.now in
    let due = subst (AreDueIn s c.args.closed) (sym c.deref.ensures.value)
    c.in_ok-due.ensures.due in
    let behind = subst (StandsBehind s.notes m.notes) (sym c.deref.ensures.value)
    c.in_ok-due.ensures.behind in
    taking_dropped {T = Unit {0}} s m t c.args.closed os due c.due_behind.ensures.moved behind
    c.in_ok-let_go.field-0 c.in_ok-let_go.ensures.goes c.let_go.ensures.still
