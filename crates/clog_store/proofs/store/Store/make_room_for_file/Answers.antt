use Rattle.std.proofs.Common.{◌≡◌, ◌∙◌, ℕ, true, inl, refl, sym, ap₂, subst}
use Rattle.std.specs.Prelude.{Err}
use Rattle.path_core.specs.Keeper.{HasKeeperCause}
use Rattle.clog_segments.specs.declared.written.StoreFault.TheVariants.{Stopped}
use Rattle.clog_segments.specs.StoreState.{StoreState, holding_of, told_as}
use Rattle.clog_store.proofs.StoreKept.{keeper_cause}
use Rattle.clog_store.proofs.States.{state_of}
use Rattle.clog_store.proofs.store.Store.make_room_for_file.Goals as goal

pub returns-then-is_stopped-clause-cause : goal.returns-then-is_stopped-clause-cause
returns-then-is_stopped-clause-cause g c =
    let D = g.D.Disk in
    let i = c.self.inside in
    let s = state_of c.self.view_is in
    let h = holding_of D.files D.changes D.moment D.faults g.row.D.coded.code s in
    let stopped : i.notes.log.is_stopped ≡ true =
    sym c.is_stopped.ensures ∙ c.if-is_stopped.true in
    let says = c.told.ensures ∙ ap₂ (λ (a b : ℕ). told_as {T = Unit {0}} a b (Err Stopped))
    c.self.invariant.0 c.fault_count-faults.ensures.count in
    subst (λ (x : StoreState g.row.D.Denot). HasKeeperCause
    (holding_of D.files D.changes D.moment D.faults g.row.D.coded.code x)
    (holding_of D.files D.changes D.moment D.faults g.row.D.coded.code x) c.told.result)
    c.self.view_is
    (subst (HasKeeperCause h h) (sym says)
    (keeper_cause {T = Unit {0}} h h (Err Stopped) (inl (stopped, refl)) stopped
    (λ has. c.self.invariant.1.risen stopped) c.fault_count-faults.ensures.fits))
