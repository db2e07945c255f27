use mathlib.Core.Logic.{inr}
use Rattle.std.proofs.Common.{◌+◌, ◌^◌, ◌<◌, ◌≤◌, Some, refl, sym, ap, ◌∙◌, subst, arith}
use Rattle.path_core.specs.declared.event.Event.TheVariants.{Finalise}
use Rattle.path_core.specs.declared.state.Bound.TheVariants.{Final}
use Rattle.path_core.specs.Parts.{seat_table}
use Rattle.path_rule.specs.declared.view.PathSize.{PathSize}
use Rattle.path_rule.specs.declared.view.View.{View}
use Rattle.path_rule.specs.Calls.{Did}
use Rattle.path_rule.specs.Lasts.{beside_of, shows_of}
use Rattle.path_core.specs.Parts.{stage_of}
use Rattle.path_rule.proofs.moves.SwitchSteps.{finalises}
use Rattle.path_rule.proofs.seats.SwitchStages.{final_above, final_found, final_stage}
use Rattle.path_rule.proofs.seats.SwitchStages.{switch_leaves}
use Rattle.path_rule.proofs.seats.LeastStays.{final_keeps}
use Rattle.path_rule.specs.Issued.{issued_in}
use Rattle.path_table.specs.LastEnds.{last_end_in}
use Rattle.path_table.proofs.table.PathTable.finalise_memtable.Goals as goal

pub fetch_add-word-requires : goal.fetch_add-word-requires
fetch_add-word-requires g c = let t = c.args.self.now in let m = c.args.member.now in
    let k = t.table.shared.key.size in
    let o = beside_of (g.K.Keeper.holds t.table.shared.key.first.value) in let wide = t.wide in
    let few = t.fits.few_tables in let there = c.requires.there.0 in (
      c.requires.table.0,
      omega arith,
      finalises (shows_of g.K.Keeper.holds) o k t.table.shared.table_id.slots m.seat.id m.seat.me
          m.number m.role c.args.table c.args.memtable c.requires.stage.0
          (omega arith) (subst (λ (z : PathSize). c.args.table.0 < z.tables) (sym
          c.requires.table.1) there)
          c.requires.stage.1,
    )

pub invariant_of-member : goal.invariant_of-member
invariant_of-member g c = let m = c.args.member.now in
    let few = c.args.self.now.fits.few_tables in let there = c.requires.there.0 in
    let q = c.fetch_add-word.ensures.2 m.number c.args.memtable c.args.table m.role (omega arith)
    (inr (_, c.requires.stage.1, refl)) refl in
    record {
      role = ap (λ (v : View). v.role) q.0.0.0 ∙ m.role;
      counted = m.counted ∙ sym (ap (λ (v : View). issued_in v.trail) q.0.0.0);
      ended = m.ended ∙ sym (ap (λ (v : View). last_end_in v.trail) q.0.0.0);
    }

pub returns-clause-same : goal.returns-clause-same
returns-clause-same g c = let m = c.args.member.now in
    let few = c.args.self.now.fits.few_tables in let there = c.requires.there.0 in
    let q = c.fetch_add-word.ensures.2 m.number c.args.memtable c.args.table m.role (omega arith)
    (inr (_, c.requires.stage.1, refl)) refl in
    (c.fetch_add-word.ensures.0, refl, q.0.1)

pub returns-clause-step : goal.returns-clause-step
returns-clause-step g c = let m = c.args.member.now in
    let few = c.args.self.now.fits.few_tables in let there = c.requires.there.0 in
    let q = c.fetch_add-word.ensures.2 m.number c.args.memtable c.args.table m.role (omega arith)
    (inr (_, c.requires.stage.1, refl)) refl in
    let f = final_found m.seat.me.0 m.number c.args.table (omega arith) c.args.memtable
    c.fetch_add-word.result
    c.requires.stage.0 q.1.0 q.1.1 c.requires.stage.1 in
    subst (λ n. Did m.seat.me.0 m.number (Finalise m.number c.args.table c.args.memtable) n
    c.fetch_add-word.new.seat.me.0) (f.0 ∙ ap (λ z. z + 2 ^ 62) (sym c.saturating_sub.ensures))
    (record { view = q.0.0.0; was = q.0.0.1 })

pub returns-clause-stage : goal.returns-clause-stage
returns-clause-stage g c = let m = c.args.member.now in
    let few = c.args.self.now.fits.few_tables in let there = c.requires.there.0 in
    let q = c.fetch_add-word.ensures.2 m.number c.args.memtable c.args.table m.role (omega arith)
    (inr (_, c.requires.stage.1, refl)) refl in
    ap (λ (v : View). stage_of v.part c.args.table.0) q.0.0.0
    ∙ final_stage m.seat.me.0 m.number c.args.table (omega arith) c.args.memtable
    c.fetch_add-word.result q.1.0 _ c.requires.stage.1

pub returns-clause-above : goal.returns-clause-above
returns-clause-above g c = let m = c.args.member.now in
    let few = c.args.self.now.fits.few_tables in let there = c.requires.there.0 in
    let q = c.fetch_add-word.ensures.2 m.number c.args.memtable c.args.table m.role (omega arith)
    (inr (_, c.requires.stage.1, refl)) refl in
    λ key F. subst (λ z. key ≤ z) (sym c.saturating_sub.ensures)
    (final_above m.seat.me.0 m.number c.args.table (omega arith) c.args.memtable
    c.fetch_add-word.result key c.requires.stage.0 q.1.0 q.1.1 c.requires.stage.1 F)

pub returns-clause-bound : goal.returns-clause-bound
returns-clause-bound g c = let m = c.args.member.now in
    let few = c.args.self.now.fits.few_tables in let there = c.requires.there.0 in
    let q = c.fetch_add-word.ensures.2 m.number c.args.memtable c.args.table m.role (omega arith)
    (inr (_, c.requires.stage.1, refl)) refl in
    ap (λ (v : View). (seat_table v.part c.args.table.0).bound) q.0.0.0
    ∙ (final_found m.seat.me.0 m.number c.args.table (omega arith) c.args.memtable
    c.fetch_add-word.result c.requires.stage.0 q.1.0 q.1.1
    c.requires.stage.1).1
    ∙ ap (λ z. Some (record { memtable = c.args.memtable; bound = Final (record { 0 = z }) }))
    (sym c.saturating_sub.ensures)

pub returns-clause-others : goal.returns-clause-others
returns-clause-others g c = let m = c.args.member.now in
    let few = c.args.self.now.fits.few_tables in let there = c.requires.there.0 in
    let q = c.fetch_add-word.ensures.2 m.number c.args.memtable c.args.table m.role (omega arith)
    (inr (_, c.requires.stage.1, refl)) refl in
    λ u apart. ap (λ (v : View). seat_table v.part u) q.0.0.0
    ∙ (switch_leaves m.seat.me.0 m.number c.args.table (omega arith) c.args.memtable
    c.fetch_add-word.result u apart).2

pub returns-clause-keeps : goal.returns-clause-keeps
returns-clause-keeps g c = let m = c.args.member.now in
    let few = c.args.self.now.fits.few_tables in let there = c.requires.there.0 in
    let q = c.fetch_add-word.ensures.2 m.number c.args.memtable c.args.table m.role (omega arith)
    (inr (_, c.requires.stage.1, refl)) refl in
    final_keeps m.seat.me.0 c.fetch_add-word.new.seat.me.0 m.number c.args.table.0 c.args.table
    c.args.memtable c.fetch_add-word.result (record { view = q.0.0.0; was = q.0.0.1 })
