use Rattle.std.proofs.Common.{◌<◌, refl, sym, ap, ◌∙◌, subst, arith}
use Rattle.path_rule.specs.declared.view.PathSize.{PathSize}
use Rattle.path_rule.specs.declared.view.View.{View}
use Rattle.path_rule.specs.Lasts.{beside_of, shows_of}
use Rattle.path_rule.proofs.moves.ReadSteps.{begins_emptying}
use Rattle.path_rule.specs.Issued.{issued_in}
use Rattle.path_table.specs.LastEnds.{last_end_in}
use Rattle.path_table.proofs.table.PathTable.begin_emptying.Goals as goal

pub load-requires : goal.load-requires
load-requires g c = let t = c.args.self.now in let m = c.args.member.now in
    let k = t.table.shared.key.size in
    let o = beside_of (g.K.Keeper.holds t.table.shared.key.first.value) in let wide = t.wide in
    let few = t.fits.few_tables in let there = c.requires.there in (
      c.requires.table.0,
      omega arith,
      begins_emptying (shows_of g.K.Keeper.holds) o k t.table.shared.table_id.slots m.seat.id
          m.seat.me m.number m.role c.args.table c.args.memtable c.requires.stage
          c.requires.oldest c.requires.unread
          (omega arith)
          (subst (λ (z : PathSize). c.args.table.0 < z.tables) (sym c.requires.table.1) there),
    )

pub invariant_of-member : goal.invariant_of-member
invariant_of-member g c = let m = c.args.member.now in
    let few = c.args.self.now.fits.few_tables in let there = c.requires.there in
    let d = c.load.ensures.2 m.number c.args.memtable c.args.table m.role (omega arith) refl
    c.requires.oldest in
    record {
      role = ap (λ (v : View). v.role) d.0.0 ∙ m.role;
      counted = m.counted ∙ sym (ap (λ (v : View). issued_in v.trail) d.0.0);
      ended = m.ended ∙ sym (ap (λ (v : View). last_end_in v.trail) d.0.0);
    }

pub returns-clause-same : goal.returns-clause-same
returns-clause-same g c = let m = c.args.member.now in
    let few = c.args.self.now.fits.few_tables in let there = c.requires.there in
    let d = c.load.ensures.2 m.number c.args.memtable c.args.table m.role (omega arith) refl
    c.requires.oldest in
    (c.load.ensures.0, refl, d.1)

pub returns-clause-step : goal.returns-clause-step
returns-clause-step g c = let m = c.args.member.now in
    let few = c.args.self.now.fits.few_tables in let there = c.requires.there in
    let d = c.load.ensures.2 m.number c.args.memtable c.args.table m.role (omega arith) refl
    c.requires.oldest in
    record { view = d.0.0; was = d.0.1 }
