use mathlib.Core.Logic.{inr}
use Rattle.std.proofs.Common.{◌<◌, refl, sym, ap, ◌∙◌, subst, arith}
use Rattle.path_core.specs.Parts.{seat_table}
use Rattle.path_rule.specs.declared.view.PathSize.{PathSize}
use Rattle.path_rule.specs.declared.view.View.{View}
use Rattle.path_rule.specs.Lasts.{beside_of, shows_of}
use Rattle.path_core.specs.Parts.{stage_of}
use Rattle.path_rule.specs.Switches.{FlushRaised}
use Rattle.path_rule.proofs.moves.BoundSteps.{raises}
use Rattle.path_rule.proofs.moves.SwitchSteps.{holder_raises}
use Rattle.path_rule.proofs.seats.Accepting.{raised_leaves}
use Rattle.path_rule.proofs.seats.SwitchStages.{raised_above, raised_stage_now}
use Rattle.path_rule.proofs.seats.LeastStays.{raise_keeps}
use Rattle.path_rule.specs.Issued.{issued_in}
use Rattle.path_table.specs.LastEnds.{last_end_in}
use Rattle.path_table.proofs.table.PathTable.raise_marked.Goals as goal

pub fetch_max-found-requires : goal.fetch_max-found-requires
fetch_max-found-requires g c = let t = c.args.self.now in let m = c.args.member.now in
    let k = t.table.shared.key.size in
    let o = beside_of (g.K.Keeper.holds t.table.shared.key.first.value) in let wide = t.wide in
    let few = t.fits.few_tables in let there = c.requires.there.0 in
    let small = c.requires.there.1 in (
      c.requires.table.0,
      omega arith,
      raises (shows_of g.K.Keeper.holds) o k t.table.shared.table_id.slots m.seat.id m.seat.me
          m.number m.role c.args.table c.args.memtable c.args.key.0
          (omega arith) (subst (λ (z : PathSize). c.args.table.0 < z.tables) (sym
          c.requires.table.1) there)
          (holder_raises (shows_of g.K.Keeper.holds) o k t.table.shared.table_id.slots m.seat.id
          m.seat.me
          m.number m.role c.args.table.0 c.args.memtable c.args.key.0
          c.requires.stage.0 c.requires.stage.1),
    )

pub invariant_of-member : goal.invariant_of-member
invariant_of-member g c = let m = c.args.member.now in
    let few = c.args.self.now.fits.few_tables in let there = c.requires.there.0 in
    let q = c.fetch_max-found.ensures.2 m.number c.args.memtable c.args.key.0 c.args.table m.role
    (omega arith)
    (inr (_, c.requires.stage.1, refl)) refl refl in
    record {
      role = ap (λ (v : View). v.role) q.0.0.0 ∙ m.role;
      counted = m.counted ∙ sym (ap (λ (v : View). issued_in v.trail) q.0.0.0);
      ended = m.ended ∙ sym (ap (λ (v : View). last_end_in v.trail) q.0.0.0);
    }

pub returns-clause-same : goal.returns-clause-same
returns-clause-same g c = let m = c.args.member.now in
    let few = c.args.self.now.fits.few_tables in let there = c.requires.there.0 in
    let q = c.fetch_max-found.ensures.2 m.number c.args.memtable c.args.key.0 c.args.table m.role
    (omega arith)
    (inr (_, c.requires.stage.1, refl)) refl refl in
    (c.fetch_max-found.ensures.0, refl, q.0.1)

pub returns-clause-step : goal.returns-clause-step
returns-clause-step g c = let m = c.args.member.now in
    let few = c.args.self.now.fits.few_tables in let there = c.requires.there.0 in
    let q = c.fetch_max-found.ensures.2 m.number c.args.memtable c.args.key.0 c.args.table m.role
    (omega arith)
    (inr (_, c.requires.stage.1, refl)) refl refl in
    (c.fetch_max-found.result, record { view = q.0.0.0; was = q.0.0.1 })

pub returns-clause-stage : goal.returns-clause-stage
returns-clause-stage g c = let m = c.args.member.now in
    let few = c.args.self.now.fits.few_tables in let there = c.requires.there.0 in
    let q = c.fetch_max-found.ensures.2 m.number c.args.memtable c.args.key.0 c.args.table m.role
    (omega arith)
    (inr (_, c.requires.stage.1, refl)) refl refl in
    ap (λ (v : View). stage_of v.part c.args.table.0) q.0.0.0
    ∙ raised_stage_now m.seat.me.0 m.number c.args.table (omega arith) c.args.memtable
    c.fetch_max-found.result c.args.key
    c.requires.stage.0 q.1.0 c.requires.stage.1

pub returns-clause-raised : goal.returns-clause-raised
returns-clause-raised g c = let m = c.args.member.now in
    let few = c.args.self.now.fits.few_tables in let there = c.requires.there.0 in
    let q = c.fetch_max-found.ensures.2 m.number c.args.memtable c.args.key.0 c.args.table m.role
    (omega arith)
    (inr (_, c.requires.stage.1, refl)) refl refl in
    subst (λ (v : View). FlushRaised c.args.table.0 v.part c.args.memtable c.args.key.0)
    (sym q.0.0.0) (raised_above m.seat.me.0 m.number c.args.table (omega arith) c.args.memtable
    c.fetch_max-found.result c.args.key c.requires.stage.0 q.1.0 q.1.1 c.requires.stage.1)

pub returns-clause-others : goal.returns-clause-others
returns-clause-others g c = let m = c.args.member.now in
    let few = c.args.self.now.fits.few_tables in let there = c.requires.there.0 in
    let q = c.fetch_max-found.ensures.2 m.number c.args.memtable c.args.key.0 c.args.table m.role
    (omega arith)
    (inr (_, c.requires.stage.1, refl)) refl refl in
    λ u apart. ap (λ (v : View). seat_table v.part u) q.0.0.0
    ∙ raised_leaves m.seat.me.0 m.number c.args.table c.args.memtable c.fetch_max-found.result
    c.args.key u apart

pub returns-clause-keeps : goal.returns-clause-keeps
returns-clause-keeps g c = let m = c.args.member.now in
    let few = c.args.self.now.fits.few_tables in let there = c.requires.there.0 in
    let q = c.fetch_max-found.ensures.2 m.number c.args.memtable c.args.key.0 c.args.table m.role
    (omega arith)
    (inr (_, c.requires.stage.1, refl)) refl refl in
    raise_keeps m.seat.me.0 c.fetch_max-found.new.seat.me.0 m.number c.args.table.0 c.args.table
    c.args.memtable c.fetch_max-found.result c.args.key
    (record { view = q.0.0.0; was = q.0.0.1 })
