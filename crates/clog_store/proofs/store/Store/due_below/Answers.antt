use Rattle.std.proofs.Common.{◌∙◌, ℕ, List, sym, subst}
use Rattle.clog_due.specs.Counting.{IsCountedIn}
use Rattle.clog_segments.specs.StoreState.{IsStore}
use Rattle.clog_store.proofs.States.{state_of}
use Rattle.clog_store.proofs.StoreSeen.{lists_same}
use Rattle.clog_store.proofs.store.Store.due_below.Goals as goal

pub invariant_of-self : goal.invariant_of-self
invariant_of-self g c =
    let D = g.D.Disk in
    let i = c.self.inside in
    let room = c.make_room.ensures in (
      c.self.invariant.0,
      subst (IsStore D.files D.changes D.moment D.faults D.read_at D.lasted_at)
          (sym (lists_same (state_of c.self.view_is) room.a room.b)) c.self.invariant.1,
      c.self.invariant.2,
      subst (λ (l : List ℕ). IsCountedIn i.notes.logged i.files.items l i.counted) (sym room.a)
          c.self.invariant.3,
    )

pub invariant_of-self-2 : goal.invariant_of-self-2
invariant_of-self-2 g c =
    let D = g.D.Disk in
    let i = c.self.inside in
    let room = c.make_room.ensures in (
      c.self.invariant.0,
      subst (IsStore D.files D.changes D.moment D.faults D.read_at D.lasted_at)
          (sym (lists_same (state_of c.self.view_is) room.a room.b)) c.self.invariant.1,
      c.self.invariant.2,
      subst (λ (l : List ℕ). IsCountedIn i.notes.logged i.files.items l i.counted) (sym room.a)
          c.self.invariant.3,
    )

pub returns-in_err-make_room-clause-same : goal.returns-in_err-make_room-clause-same
returns-in_err-make_room-clause-same g c =
    lists_same (state_of c.self.view_is) c.make_room.ensures.a c.make_room.ensures.b
    ∙ c.self.view_is ∙ c.due_counted.ensures.same

pub returns-clause-same : goal.returns-clause-same
returns-clause-same g c =
    lists_same (state_of c.self.view_is) c.make_room.ensures.a c.make_room.ensures.b
    ∙ c.self.view_is ∙ c.due_counted.ensures.same
