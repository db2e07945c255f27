use Rattle.std.proofs.Common.{◌≡◌, ◌∙◌, [], false, refl, sym, ap, subst, append-nil}
use Rattle.std.specs.Prelude.{OnErr, OnOk}
use Rattle.std.proofs.lemmas.Bool.{true≢false}
use Rattle.clog_base.proofs.Members.{nothing_there}
use Rattle.clog_due.specs.Counting.{IsCountedIn}
use Rattle.clog_segments.specs.NoteLog.{HasLog, NoteState}
use Rattle.clog_due.specs.StoreDrops.{AreDueIn}
use Rattle.clog_segments.specs.StoreState.{StoreState, holding_of}
use Rattle.clog_store.specs.StoreTakes.{StandsBehind}
use Rattle.clog_store.proofs.OrderSyncs.{goes_for_none, settled_same}
use Rattle.clog_store.proofs.StoreFolds.{folder_failed, folder_with}
use Rattle.clog_store.proofs.StoreKept.{store_on}
use Rattle.clog_segments.proofs.NamesKept.{names_on}
use Rattle.clog_store.proofs.States.{state_of}
use Rattle.clog_store.proofs.store.Store.go_behind.Goals as goal

pub go_behind-outcome-requires-clause-due : goal.go_behind-outcome-requires-clause-due
go_behind-outcome-requires-clause-due g c =
    let D = g.D.Disk in
    let i = c.self.inside in
    let s = state_of c.self.view_is in
    let h = holding_of D.files D.changes D.moment D.faults g.row.D.coded.code s in
    let has : HasLog i.notes h = record {
      base_is = refl;
      sizes_are = refl;
      synced_is = refl;
      logged_are = refl;
      kept_are = refl;
    } in
    let due = subst (λ (x : StoreState g.row.D.Denot). AreDueIn x c.requires.due.0 c.args.due.now)
    (sym c.self.view_is) c.requires.due.1 in (
      h,
      c.requires.due.0,
      has,
      due h (record { log = has; files_are = refl; dropped_are = refl }),
    )

pub invariant_of-self : goal.invariant_of-self
invariant_of-self g c =
    let D = g.D.Disk in
    let i = c.self.inside in
    let s = state_of c.self.view_is in
    let is = c.go_behind-outcome.ensures in
    let n = c.go_behind-outcome.new.self in
    let told = c.tell.ensures in
    let runs = subst (λ (x : StoreState g.row.D.Denot). x.notes.log.is_stopped ≡ false)
    (sym c.self.view_is) c.requires.runs in (
      c.self.invariant.0,
      store_on D.files D.changes D.moment D.faults D.read_at D.lasted_at s n c.self.invariant.1
          is.opened is.first is.later is.writes
          (λ stopped. absurd (true≢false (sym stopped ∙ runs))) c.go_behind-outcome.result is.cause
          is.stops told.sound
          (λ still. folder_with D.files D.changes D.moment D.faults D.read_at D.lasted_at
          g.row.D.coded.code g.met.D.Disk.tells_both s n c.self.invariant.1 is.writes is.others
          told.sound told.reads told.stands runs still []
          (ap (λ (x : NoteState g.row.D.Denot). x.base) is.same)
          (ap (λ (x : NoteState g.row.D.Denot). x.logged) is.same
          ∙ sym (append-nil s.notes.logged)) (λ m among. absurd (nothing_there m among)))
          (λ stopped _. folder_failed D.files D.changes D.moment D.faults D.read_at D.lasted_at
          g.row.D.coded.code g.met.D.Disk.tells_both s n c.self.invariant.1 is.writes is.others
          told.sound told.reads told.stands runs (ap (λ (x : NoteState g.row.D.Denot). x.base)
          is.same)
          (ap (λ (x : NoteState g.row.D.Denot). x.logged) is.same))
          (settled_same s.notes n s.files (ap (λ (x : NoteState g.row.D.Denot). x.sizes) is.same)
          (ap (λ (x : NoteState g.row.D.Denot). x.logged) is.same)
          (ap (λ (x : NoteState g.row.D.Denot). x.synced) is.same) c.self.invariant.1.order.settled)
          (goes_for_none s n is.others.more
          (ap (λ (x : NoteState g.row.D.Denot). x.base) is.same) is.others.past
          (ap (λ (x : NoteState g.row.D.Denot). x.logged) is.same)),
      names_on D.files D.leaves s.first s.notes.log n.log c.self.invariant.2 is.names_last,
      subst (λ (x : NoteState g.row.D.Denot).
          IsCountedIn x.logged i.files.items i.dropped.items i.counted) (sym is.same)
          c.self.invariant.3,
    )

pub returns-clause-behind : goal.returns-clause-behind
returns-clause-behind g c =
    subst (λ (x : StoreState g.row.D.Denot). OnOk c.go_behind-outcome.result
    (StandsBehind x.notes c.go_behind-outcome.new.self c.args.due.now)) c.self.view_is
    c.go_behind-outcome.ensures.behind

pub returns-clause-still : goal.returns-clause-still
returns-clause-still g c =
    subst (λ (x : StoreState g.row.D.Denot). OnErr c.go_behind-outcome.result
    (c.go_behind-outcome.new.self.log.id ≡ x.notes.log.id)) c.self.view_is
    c.go_behind-outcome.ensures.still
