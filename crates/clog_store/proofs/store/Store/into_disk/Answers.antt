use Rattle.std.proofs.Common.{◌≡◌, ◌∙◌, Some, false, refl, sym, ap, subst}
use Rattle.clog_segments.specs.AtMost.{HoldsMost}
use Rattle.clog_segments.specs.NoteLog.{IsNoteLog, NoteState}
use Rattle.clog_segments.specs.NamesLast.{NamesLast}
use Rattle.clog_segments.specs.StoreFolder.{IsSound}
use Rattle.clog_segments.specs.StoreImages.{MostSince, OpensSince, TablesSince}
use Rattle.clog_store.specs.StoreNames.{RowsLast}
use Rattle.clog_segments.specs.StoreOrder.{AreSettled}
use Rattle.clog_segments.specs.Life.{ShownSince, State}
use Rattle.clog_segments.specs.StoreFailed.{AllStay}
use Rattle.clog_segments.specs.StoreState.{
  AppendsAlone,
  HasOrdered,
  HoldsIt,
  HoldsItButOne,
  StoreState,
}
use Rattle.clog_store.proofs.OpensSince.{opens_since}
use Rattle.clog_store.proofs.States.{state_of}
use Rattle.clog_store.proofs.StoreImages.{most_of, tables_of}
use Rattle.clog_store.proofs.StoreKept.{all_stay_of, left_of, rows_last}
use Rattle.clog_store.proofs.store.Store.into_disk.Goals as goal

pub returns-clause-folder : goal.returns-clause-folder
returns-clause-folder g c still =
    subst (λ (x : StoreState g.row.D.Denot). x.notes.log.is_stopped ≡ false
    → HoldsIt g.D.Disk.files x) c.self.view_is c.self.invariant.1.folder still

pub returns-clause-alone : goal.returns-clause-alone
returns-clause-alone g c =
    subst (λ (x : StoreState g.row.D.Denot). AppendsAlone g.D.Disk.changes x) c.self.view_is
    c.self.invariant.1.appended

pub returns-clause-sound : goal.returns-clause-sound
returns-clause-sound g c =
    subst (λ (x : StoreState g.row.D.Denot). IsSound x.notes.log) c.self.view_is
    c.self.invariant.1.sound

pub returns-clause-left : goal.returns-clause-left
returns-clause-left g c =
    let D = g.D.Disk in
    subst (λ (x : StoreState g.row.D.Denot). HoldsItButOne D.files x) c.self.view_is
    (left_of D.files D.changes D.moment D.faults D.read_at D.lasted_at _ c.self.invariant.1)

pub returns-clause-stay : goal.returns-clause-stay
returns-clause-stay g c first now at_first at_now =
    let D = g.D.Disk in
    let its_disk = c.into_disk.ensures.disk
    ∙ ap (λ (l : State g.row.D.Denot). l.disk) c.into_log.ensures.log
    ∙ ap (λ (x : StoreState g.row.D.Denot). x.notes.log.disk) c.self.view_is in
    subst (λ (x : StoreState g.row.D.Denot). D.files x.first ≡ Some first
    → D.files x.notes.log.disk ≡ Some now → AllStay first now) c.self.view_is
    (all_stay_of D.files D.changes D.moment D.faults D.read_at D.lasted_at _ c.self.invariant.1
    first now) at_first (ap D.files (sym its_disk) ∙ at_now)

pub returns-clause-settled : goal.returns-clause-settled
returns-clause-settled g c =
    subst (λ (x : StoreState g.row.D.Denot). AreSettled x.notes x.files) c.self.view_is
    c.self.invariant.1.order.settled

pub returns-clause-ordered : goal.returns-clause-ordered
returns-clause-ordered g c =
    subst (λ (x : StoreState g.row.D.Denot). HasOrdered g.D.Disk.changes x) c.self.view_is
    c.self.invariant.1.order.ordered

pub returns-clause-names : goal.returns-clause-names
returns-clause-names g c =
    subst (λ (x : StoreState g.row.D.Denot).
    NamesLast g.D.Disk.files g.D.Disk.leaves x.first x.notes.log) c.self.view_is
    c.self.invariant.2

pub returns-clause-rows : goal.returns-clause-rows
returns-clause-rows g c =
    let D = g.D.Disk in
    subst (λ (x : StoreState g.row.D.Denot). RowsLast D.files D.leaves x) c.self.view_is
    (rows_last D.files D.changes D.moment D.faults D.read_at D.lasted_at D.leaves _
    c.self.invariant.1 c.self.invariant.2)

pub returns-clause-shown : goal.returns-clause-shown
returns-clause-shown g c =
    let D = g.D.Disk in
    let d = c.into_disk.result in
    let Shown = ShownSince D.files D.moment D.since D.read_at D.lasted_at in
    let i = c.self.inside.notes.log in
    subst (λ (x : StoreState g.row.D.Denot). D.lasted_at d x.notes.log.opened
    → Shown x.first d x.notes.log.opened x.notes.log.past x.notes.log.id x.notes.log.sections)
    c.self.view_is
    (λ lasted. subst (λ (f : g.row.D.Denot). Shown f d i.opened i.past i.id i.sections)
    c.self.invariant.1.began
    (subst (λ (l : State g.row.D.Denot). D.lasted_at d l.opened
    → Shown l.first d l.opened l.past l.id l.sections) c.into_log.ensures.log
    c.into_disk.ensures.shown lasted))

-- ---- its images since the opening

pub returns-clause-most : goal.returns-clause-most
returns-clause-most g c =
    let D = g.D.Disk in
    let d = c.into_disk.result in
    let kept = c.self.invariant.1 in
    let i = state_of c.self.view_is in
    let its_disk : d ≡ i.notes.log.disk =
    c.into_disk.ensures.disk ∙ ap (λ (l : State g.row.D.Denot). l.disk) c.into_log.ensures.log in
    subst (λ (x : StoreState g.row.D.Denot). D.lasted_at d x.notes.log.opened
    → MostSince D.files D.moment D.since x) c.self.view_is
    (λ lasted. most_of D.files D.changes D.moment D.since D.leaves D.read_at D.lasted_at D.faults i
    d
    kept its_disk (subst (λ (l : State g.row.D.Denot). HoldsMost D.files D.moment D.since D.leaves
    l)
    c.into_log.ensures.log c.into_disk.ensures.most) (g.met.D.Disk.lasts_now i.first) lasted)

pub returns-clause-tables : goal.returns-clause-tables
returns-clause-tables g c =
    let D = g.D.Disk in
    let d = c.into_disk.result in
    let kept = c.self.invariant.1 in
    let i = state_of c.self.view_is in
    let its_disk : d ≡ i.notes.log.disk =
    c.into_disk.ensures.disk ∙ ap (λ (l : State g.row.D.Denot). l.disk) c.into_log.ensures.log in
    subst (λ (x : StoreState g.row.D.Denot). D.lasted_at d x.notes.log.opened
    → TablesSince D.files D.moment D.since x) c.self.view_is
    (λ lasted. tables_of D.files D.changes D.moment D.since D.leaves D.read_at D.lasted_at
    D.faults i d
    kept its_disk (subst (λ (l : State g.row.D.Denot). HoldsMost D.files D.moment D.since D.leaves
    l)
    c.into_log.ensures.log c.into_disk.ensures.most) (g.met.D.Disk.lasts_now i.first) lasted)

pub returns-clause-opens : goal.returns-clause-opens
returns-clause-opens g c =
    let D = g.D.Disk in
    let d = c.into_disk.result in
    let kept = c.self.invariant.1 in
    let i = state_of c.self.view_is in
    let its_disk : d ≡ i.notes.log.disk =
    c.into_disk.ensures.disk ∙ ap (λ (l : State g.row.D.Denot). l.disk) c.into_log.ensures.log in
    let shown = λ (lasted : D.lasted_at d i.notes.log.opened).
    subst (λ (x : g.row.D.Denot). ShownSince D.files D.moment D.since D.read_at D.lasted_at x
    i.notes.log.disk i.notes.log.opened i.notes.log.past i.notes.log.id i.notes.log.sections)
    kept.began
    (subst (λ (x : g.row.D.Denot). ShownSince D.files D.moment D.since D.read_at D.lasted_at
    i.notes.log.first x i.notes.log.opened i.notes.log.past i.notes.log.id i.notes.log.sections)
    its_disk
    (subst (λ (l : State g.row.D.Denot). D.lasted_at d l.opened
    → ShownSince D.files D.moment D.since D.read_at D.lasted_at l.first d l.opened l.past l.id
    l.sections) c.into_log.ensures.log c.into_disk.ensures.shown lasted)) in
    subst (λ (x : StoreState g.row.D.Denot). D.lasted_at d x.notes.log.opened
    → OpensSince D.files D.moment D.since x) c.self.view_is
    (λ lasted. opens_since D.files D.changes D.moment D.since D.read_at D.lasted_at i kept.opened
    kept.later (g.met.D.Disk.reads_now i.first) (shown lasted)
    (subst (λ (n : NoteState g.row.D.Denot). IsNoteLog n) refl c.into_log.ensures.notes) kept.sound
    kept.grown
    (left_of D.files D.changes D.moment D.faults D.read_at D.lasted_at i kept)
    (most_of D.files D.changes D.moment D.since D.leaves D.read_at D.lasted_at D.faults i d kept
    its_disk (subst (λ (l : State g.row.D.Denot). HoldsMost D.files D.moment D.since D.leaves l)
    c.into_log.ensures.log c.into_disk.ensures.most) (g.met.D.Disk.lasts_now i.first) lasted))
