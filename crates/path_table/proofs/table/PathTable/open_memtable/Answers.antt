use Rattle.std.proofs.Common.{◌<◌, refl, sym, ap, ◌∙◌, subst, arith}
use Rattle.path_core.specs.Parts.{seat_table}
use Rattle.path_rule.specs.declared.view.PathSize.{PathSize}
use Rattle.path_rule.specs.declared.view.View.{View}
use Rattle.path_rule.specs.Lasts.{beside_of, shows_of}
use Rattle.path_core.specs.Parts.{stage_of}
use Rattle.path_rule.proofs.moves.SwitchSteps.{opens_memtable}
use Rattle.path_rule.proofs.seats.SwitchStages.{opened_stage, switch_leaves}
use Rattle.path_rule.proofs.seats.LeastStays.{open_keeps, open_newest}
use Rattle.path_rule.specs.Issued.{issued_in}
use Rattle.path_table.specs.LastEnds.{last_end_in}
use Rattle.path_table.proofs.table.PathTable.open_memtable.Goals as goal

pub store-requires : goal.store-requires
store-requires g c = let t = c.args.self.now in let m = c.args.member.now in
    let k = t.table.shared.key.size in
    let o = beside_of (g.K.Keeper.holds t.table.shared.key.first.value) in let wide = t.wide in
    let few = t.fits.few_tables in let there = c.requires.there in
    let turn = c.requires.turn in (
      c.requires.table.0,
      omega arith,
      opens_memtable (shows_of g.K.Keeper.holds) o k t.table.shared.table_id.slots m.seat.id
          m.seat.me
          m.number m.role c.args.table c.args.memtable turn.0
          (omega arith) (subst (λ (z : PathSize). c.args.table.0 < z.tables) (sym
          c.requires.table.1) there)
          turn.1 turn.2 turn.3 c.requires.cleared turn.4,
    )

pub invariant_of-member : goal.invariant_of-member
invariant_of-member g c = let m = c.args.member.now in
    let few = c.args.self.now.fits.few_tables in let there = c.requires.there in
    let q = c.store.ensures.2 m.number c.args.table m.role (omega arith) refl in
    record {
      role = ap (λ (v : View). v.role) q.0.0 ∙ m.role;
      counted = m.counted ∙ sym (ap (λ (v : View). issued_in v.trail) q.0.0);
      ended = m.ended ∙ sym (ap (λ (v : View). last_end_in v.trail) q.0.0);
    }

pub returns-clause-same : goal.returns-clause-same
returns-clause-same g c = let m = c.args.member.now in
    let few = c.args.self.now.fits.few_tables in let there = c.requires.there in
    let q = c.store.ensures.2 m.number c.args.table m.role (omega arith) refl in
    (c.store.ensures.0, refl, q.1)

pub returns-clause-step : goal.returns-clause-step
returns-clause-step g c = let m = c.args.member.now in
    let few = c.args.self.now.fits.few_tables in let there = c.requires.there in
    let q = c.store.ensures.2 m.number c.args.table m.role (omega arith) refl in
    record { view = q.0.0; was = q.0.1 }

pub returns-clause-stage : goal.returns-clause-stage
returns-clause-stage g c = let m = c.args.member.now in
    let few = c.args.self.now.fits.few_tables in let there = c.requires.there in
    let q = c.store.ensures.2 m.number c.args.table m.role (omega arith) refl in
    let turn = c.requires.turn.1 in
    ap (λ (v : View). stage_of v.part c.args.table.0) q.0.0
    ∙ opened_stage m.seat.me.0 m.number c.args.table (omega arith) c.args.memtable q.0.1 turn.0
    turn.1

pub returns-clause-others : goal.returns-clause-others
returns-clause-others g c = let m = c.args.member.now in
    let few = c.args.self.now.fits.few_tables in let there = c.requires.there in
    let q = c.store.ensures.2 m.number c.args.table m.role (omega arith) refl in
    λ u apart. ap (λ (v : View). seat_table v.part u) q.0.0
    ∙ (switch_leaves m.seat.me.0 m.number c.args.table (omega arith) c.args.memtable c.args.memtable
    u apart).0

pub returns-clause-newest : goal.returns-clause-newest
returns-clause-newest g c = let m = c.args.member.now in
    let few = c.args.self.now.fits.few_tables in let there = c.requires.there in
    let q = c.store.ensures.2 m.number c.args.table m.role (omega arith) refl in
    let turn = c.requires.turn.1 in
    open_newest m.seat.me.0 c.store.new.seat.me.0 m.number c.args.table c.args.memtable
    c.args.memtable (omega arith) (record { view = q.0.0; was = q.0.1 }) turn.0 turn.1

pub returns-clause-keeps : goal.returns-clause-keeps
returns-clause-keeps g c = let m = c.args.member.now in
    let few = c.args.self.now.fits.few_tables in let there = c.requires.there in
    let q = c.store.ensures.2 m.number c.args.table m.role (omega arith) refl in
    open_keeps m.seat.me.0 c.store.new.seat.me.0 m.number c.args.table.0 c.args.table
    c.args.memtable c.args.memtable (record { view = q.0.0; was = q.0.1 })
