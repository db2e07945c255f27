use Rattle.std.proofs.Common.{
  ◌≡◌,
  ℕ,
  ◌++◌,
  ◌∙◌,
  List,
  false,
  take,
  refl,
  sym,
  ap,
  subst,
}
use Rattle.std.specs.Prelude.{if◌then◌else◌}
use Rattle.clog_due.specs.Counting.{IsCountedIn}
use Rattle.clog_segments.specs.Life.{LivesOn, State}
use Rattle.clog_segments.specs.NoteLog.{NoteState}
use Rattle.clog_due.specs.StoreDrops.{AreDueIn, AreEarlier, HasLetGo}
use Rattle.clog_segments.specs.Stepped.{Passes}
use Rattle.clog_segments.specs.StoreFolder.{with_gone}
use Rattle.clog_segments.specs.StoreState.{IsStore, StoreState, deeds_by}
use Rattle.clog_due.proofs.HeldSegments.{counted_gone}
use Rattle.clog_segments.proofs.Lived.{lives_still}
use Rattle.clog_store.proofs.NoteTakes.{passed_id}
use Rattle.clog_store.proofs.States.{state_of}
use Rattle.clog_store.proofs.StoreLetGo.{all_covered, droppable, let_go_with, none_let_go}
use Rattle.clog_store.proofs.StoreSeen.{lists_same}
use Rattle.clog_segments.proofs.NamesKept.{names_on}
use Rattle.clog_store.proofs.store.Store.let_go.Goals as goal

pub discard-outcome-requires-clause-droppable : goal.discard-outcome-requires-clause-droppable
discard-outcome-requires-clause-droppable g c =
    let D = g.D.Disk in
    let i = c.self.inside in
    let s = state_of c.self.view_is in
    let os = c.args.due.now in
    let runs = subst (λ (x : StoreState g.row.D.Denot). x.notes.log.is_stopped ≡ false)
    (sym c.self.view_is) c.requires.runs in
    let closed = c.requires.due.0 in
    let due = subst (λ (x : StoreState g.row.D.Denot). AreDueIn x closed os)
    (sym c.self.view_is) c.requires.due.1 in
    let low = subst (λ (x : StoreState g.row.D.Denot). AreEarlier x.notes os)
    (sym c.self.view_is) c.requires.earlier in
    droppable D.files D.changes D.moment D.faults D.read_at D.lasted_at
    g.row.D.coded.code g.met.D.Disk.tells_both s c.self.invariant.1 runs c.tell.ensures.notes
    closed os due low (D.files i.notes.log.disk) refl

pub discard-outcome-requires-clause-covered : goal.discard-outcome-requires-clause-covered
discard-outcome-requires-clause-covered g c =
    let D = g.D.Disk in
    let i = c.self.inside in
    let s = state_of c.self.view_is in
    let os = c.args.due.now in
    let runs = subst (λ (x : StoreState g.row.D.Denot). x.notes.log.is_stopped ≡ false)
    (sym c.self.view_is) c.requires.runs in
    let closed = c.requires.due.0 in
    let due = subst (λ (x : StoreState g.row.D.Denot). AreDueIn x closed os)
    (sym c.self.view_is) c.requires.due.1 in
    let low = subst (λ (x : StoreState g.row.D.Denot). AreEarlier x.notes os)
    (sym c.self.view_is) c.requires.earlier in
    all_covered D.files D.changes D.moment D.faults D.read_at D.lasted_at
    g.row.D.coded.code g.met.D.Disk.tells_both s c.self.invariant.1 runs c.tell.ensures.notes
    closed os due low (D.files i.notes.log.disk) refl

pub invariant_of-self-2 : goal.invariant_of-self-2
invariant_of-self-2 g c =
    let D = g.D.Disk in
    let i = c.self.inside in
    let s = state_of c.self.view_is in
    let os = c.args.due.now in
    let runs = subst (λ (x : StoreState g.row.D.Denot). x.notes.log.is_stopped ≡ false)
    (sym c.self.view_is) c.requires.runs in
    let closed = c.requires.due.0 in
    let due = subst (λ (x : StoreState g.row.D.Denot). AreDueIn x closed os)
    (sym c.self.view_is) c.requires.due.1 in
    let low = subst (λ (x : StoreState g.row.D.Denot). AreEarlier x.notes os)
    (sym c.self.view_is) c.requires.earlier in
    let n = c.discard-outcome.new.self in
    let r = c.discard-outcome.result in
    let is = c.discard-outcome.ensures in
    let both = let_go_with D.files D.changes D.moment D.faults D.read_at D.lasted_at
    g.row.D.coded.code g.met.D.Disk.tells_both s c.self.invariant.1 runs c.tell.ensures.notes
    closed os due low n r is.notes is.passes is.within is.files
    is.told is.others is.changes is.later is.cause is.stops
    c.add_all.new.list.items c.add_archived.new.list.items
    (c.add_all.ensures ∙ ap (λ (l : List ℕ). l ++ take c.dropped_by-gone.result os)
    c.make_room.ensures.a ∙ ap (λ (k : ℕ). i.dropped.items ++ take k os) c.dropped_by-gone.ensures)
    (c.add_archived.ensures ∙ ap (λ (l : List ℕ).
    if i.archives then l ++ take c.archived_by-named.result os else l) c.make_room.ensures.b
    ∙ ap (λ (k : ℕ). (with_gone (deeds_by s) (take k os)).archived)
    c.archived_by-named.ensures) in (
      c.self.invariant.0,
      both.0,
      names_on D.files D.leaves s.first s.notes.log n.log c.self.invariant.2 is.names_last,
      subst (λ (l : List ℕ). IsCountedIn n.logged i.files.items l i.counted)
          (sym (c.add_all.ensures
          ∙ ap (λ (l : List ℕ). l ++ take c.dropped_by-gone.result os) c.make_room.ensures.a))
          (counted_gone n.logged i.files.items i.dropped.items
          (take c.dropped_by-gone.result os) i.counted
          (subst (λ (x : NoteState g.row.D.Denot).
          IsCountedIn x.logged i.files.items i.dropped.items i.counted) (sym is.notes)
          c.self.invariant.3)),
    )

pub returns-clause-goes : goal.returns-clause-goes
returns-clause-goes g c =
    let D = g.D.Disk in
    let i = c.self.inside in
    let s = state_of c.self.view_is in
    let os = c.args.due.now in
    let runs = subst (λ (x : StoreState g.row.D.Denot). x.notes.log.is_stopped ≡ false)
    (sym c.self.view_is) c.requires.runs in
    let closed = c.requires.due.0 in
    let due = subst (λ (x : StoreState g.row.D.Denot). AreDueIn x closed os)
    (sym c.self.view_is) c.requires.due.1 in
    let low = subst (λ (x : StoreState g.row.D.Denot). AreEarlier x.notes os)
    (sym c.self.view_is) c.requires.earlier in
    let n = c.discard-outcome.new.self in
    let r = c.discard-outcome.result in
    let is = c.discard-outcome.ensures in
    let both = let_go_with D.files D.changes D.moment D.faults D.read_at D.lasted_at
    g.row.D.coded.code g.met.D.Disk.tells_both s c.self.invariant.1 runs c.tell.ensures.notes
    closed os due low n r is.notes is.passes is.within is.files
    is.told is.others is.changes is.later is.cause is.stops
    c.add_all.new.list.items c.add_archived.new.list.items
    (c.add_all.ensures ∙ ap (λ (l : List ℕ). l ++ take c.dropped_by-gone.result os)
    c.make_room.ensures.a ∙ ap (λ (k : ℕ). i.dropped.items ++ take k os) c.dropped_by-gone.ensures)
    (c.add_archived.ensures ∙ ap (λ (l : List ℕ).
    if i.archives then l ++ take c.archived_by-named.result os else l) c.make_room.ensures.b
    ∙ ap (λ (k : ℕ). (with_gone (deeds_by s) (take k os)).archived) c.archived_by-named.ensures) in
    subst (λ (x : StoreState g.row.D.Denot). HasLetGo x (record s {
      notes = n;
      dropped = c.add_all.new.list.items;
      archived = c.add_archived.new.list.items;
    }) os c.fault_of.result) c.self.view_is
    (subst (HasLetGo s (record s {
      notes = n;
      dropped = c.add_all.new.list.items;
      archived = c.add_archived.new.list.items;
    }) os) (sym c.fault_of.ensures) both.1)

-- ---- there is no memory for the lists

pub invariant_of-self : goal.invariant_of-self
invariant_of-self g c =
    let D = g.D.Disk in
    let i = c.self.inside in
    let room = c.make_room.ensures in (
      c.self.invariant.0,
      subst (IsStore D.files D.changes D.moment D.faults D.read_at D.lasted_at)
          (sym (lists_same (state_of c.self.view_is) room.a room.b)) c.self.invariant.1,
      c.self.invariant.2,
      subst (λ (l : List ℕ). IsCountedIn i.notes.logged i.files.items l i.counted) (sym room.a)
          c.self.invariant.3,
    )

pub returns-in_err-make_room-clause-goes : goal.returns-in_err-make_room-clause-goes
returns-in_err-make_room-clause-goes g c =
    let s = state_of c.self.view_is in
    subst (λ (x : StoreState g.row.D.Denot). HasLetGo x (record s {
      dropped = c.make_room.new.a.items;
      archived = c.make_room.new.b.items;
    }) c.args.due.now c.from_residual.result) c.self.view_is
    (none_let_go s c.args.due.now c.make_room.new.a.items c.make_room.new.b.items
    c.from_residual.result c.from_residual.ensures.0 c.make_room.ensures.a c.make_room.ensures.b)

pub returns-in_err-make_room-clause-lives : goal.returns-in_err-make_room-clause-lives
returns-in_err-make_room-clause-lives g c lives =
    let D = g.D.Disk in
    let log = c.args.self.now.notes.log in
    subst (λ (l : State g.row.D.Denot).
    LivesOn D.files D.moment D.since D.leaves D.read_at D.lasted_at log l)
    (sym (ap (λ (x : StoreState g.row.D.Denot). x.notes.log) c.self.view_is))
    (lives_still D.files D.moment D.since D.leaves D.read_at D.lasted_at log
    (g.met.D.Disk.only_now log.disk) lives)

-- ---- it stands where it did

pub returns-clause-still : goal.returns-clause-still
returns-clause-still g c =
    let n = c.discard-outcome.new.self in
    passed_id c.self.inside.notes.log n.log c.fault_of.result
    (subst (Passes c.self.inside.notes.log n.log) (sym c.fault_of.ensures)
    c.discard-outcome.ensures.passes)
    ∙ ap (λ (x : StoreState g.row.D.Denot). x.notes.log.id) c.self.view_is
