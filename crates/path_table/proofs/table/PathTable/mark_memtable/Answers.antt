use mathlib.Core.Logic.{inr}
use Rattle.std.proofs.Common.{suc, ◌^◌, ◌<◌, refl, sym, ap, ◌∙◌, subst, arith}
use Rattle.path_core.specs.declared.seat.Switching.TheVariants.{Begun}
use Rattle.path_core.specs.Parts.{seat_table}
use Rattle.path_rule.specs.declared.view.PathSize.{PathSize}
use Rattle.path_rule.specs.declared.view.View.{View}
use Rattle.path_rule.specs.Lasts.{beside_of, shows_of}
use Rattle.path_core.specs.Parts.{stage_of}
use Rattle.path_rule.proofs.moves.SwitchSteps.{marks_memtable}
use Rattle.path_rule.proofs.seats.SwitchStages.{marked_stage, switch_leaves}
use Rattle.path_rule.proofs.seats.LeastStays.{mark_keeps}
use Rattle.path_rule.specs.Issued.{issued_in}
use Rattle.path_table.specs.LastEnds.{last_end_in}
use Rattle.path_table.proofs.table.PathTable.mark_memtable.Goals as goal

pub store-requires : goal.store-requires
store-requires g c = let t = c.args.self.now in let m = c.args.member.now in
    let k = t.table.shared.key.size in
    let o = beside_of (g.K.Keeper.holds t.table.shared.key.first.value) in let wide = t.wide in
    let few = t.fits.few_tables in let there = c.requires.there.0 in (
      c.requires.table.0,
      omega arith,
      marks_memtable (shows_of g.K.Keeper.holds) o k t.table.shared.table_id.slots m.seat.id
          m.seat.me
          m.number m.role c.args.table c.args.memtable (omega arith)
          (subst (λ (z : PathSize). c.args.table.0 < z.tables) (sym
          c.requires.table.1) there)
          c.requires.stage,
    )

pub invariant_of-member : goal.invariant_of-member
invariant_of-member g c = let m = c.args.member.now in
    let few = c.args.self.now.fits.few_tables in let there = c.requires.there.0 in
    let q = c.store.ensures.2 m.number c.args.memtable c.args.table m.role (omega arith)
    (inr (Begun (suc c.args.memtable), c.requires.stage, refl)) refl in
    record {
      role = ap (λ (v : View). v.role) q.0.0 ∙ m.role;
      counted = m.counted ∙ sym (ap (λ (v : View). issued_in v.trail) q.0.0);
      ended = m.ended ∙ sym (ap (λ (v : View). last_end_in v.trail) q.0.0);
    }

pub returns-clause-same : goal.returns-clause-same
returns-clause-same g c = let m = c.args.member.now in
    let few = c.args.self.now.fits.few_tables in let there = c.requires.there.0 in
    let q = c.store.ensures.2 m.number c.args.memtable c.args.table m.role (omega arith)
    (inr (Begun (suc c.args.memtable), c.requires.stage, refl)) refl in
    (c.store.ensures.0, refl, q.1)

pub returns-clause-step : goal.returns-clause-step
returns-clause-step g c = let m = c.args.member.now in
    let few = c.args.self.now.fits.few_tables in let there = c.requires.there.0 in
    let q = c.store.ensures.2 m.number c.args.memtable c.args.table m.role (omega arith)
    (inr (Begun (suc c.args.memtable), c.requires.stage, refl)) refl in
    record { view = q.0.0; was = q.0.1 }

pub returns-clause-stage : goal.returns-clause-stage
returns-clause-stage g c = let m = c.args.member.now in
    let few = c.args.self.now.fits.few_tables in let there = c.requires.there.0 in
    let q = c.store.ensures.2 m.number c.args.memtable c.args.table m.role (omega arith)
    (inr (Begun (suc c.args.memtable), c.requires.stage, refl)) refl in
    ap (λ (v : View). stage_of v.part c.args.table.0) q.0.0
    ∙ marked_stage m.seat.me.0 m.number c.args.table (omega arith) c.args.memtable (2 ^ 62) q.0.1
    (Begun (suc c.args.memtable)) c.requires.stage

pub returns-clause-others : goal.returns-clause-others
returns-clause-others g c = let m = c.args.member.now in
    let few = c.args.self.now.fits.few_tables in let there = c.requires.there.0 in
    let q = c.store.ensures.2 m.number c.args.memtable c.args.table m.role (omega arith)
    (inr (Begun (suc c.args.memtable), c.requires.stage, refl)) refl in
    λ u apart. ap (λ (v : View). seat_table v.part u) q.0.0
    ∙ (switch_leaves m.seat.me.0 m.number c.args.table (omega arith) c.args.memtable (2 ^ 62) u
    apart).1

pub returns-clause-keeps : goal.returns-clause-keeps
returns-clause-keeps g c = let m = c.args.member.now in
    let few = c.args.self.now.fits.few_tables in let there = c.requires.there.0 in
    let q = c.store.ensures.2 m.number c.args.memtable c.args.table m.role (omega arith)
    (inr (Begun (suc c.args.memtable), c.requires.stage, refl)) refl in
    mark_keeps m.seat.me.0 c.store.new.seat.me.0 m.number c.args.table.0 c.args.table
    c.args.memtable (2 ^ 62) (record { view = q.0.0; was = q.0.1 })
