use Rattle.std.proofs.Common.{◌≡◌, suc, ◌+◌, ◌<◌, refl, sym, ap, ◌∙◌, subst, arith}
use Rattle.path_rule.specs.declared.view.PathSize.{PathSize}
use Rattle.path_rule.specs.declared.view.View.{View}
use Rattle.path_rule.specs.Flushes.{SeesNone}
use Rattle.path_rule.specs.Lasts.{beside_of, shows_of}
use Rattle.path_rule.proofs.moves.RetireSteps.{retires_empty}
use Rattle.path_rule.specs.Issued.{issued_in}
use Rattle.path_table.specs.LastEnds.{last_end_in}
use Rattle.path_table.proofs.table.PathTable.retire_empty.Goals as goal

pub store-requires : goal.store-requires
store-requires g c = let t = c.args.self.now in let m = c.args.member.now in
    let k = t.table.shared.key.size in
    let o = beside_of (g.K.Keeper.holds t.table.shared.key.first.value) in let wide = t.wide in
    let few = t.fits.few_tables in let there = c.requires.there.0 in
    let sees = subst (λ (z : PathSize).
    SeesNone z.seats m.seat.me.0.hands c.args.table.0 c.args.memtable) (sym t.keyed)
    c.requires.sees in (
      c.requires.table.0,
      omega arith,
      retires_empty (shows_of g.K.Keeper.holds) o k t.table.shared.table_id.slots
          m.seat.id m.seat.me m.number m.role c.args.table c.args.memtable
          (c.args.memtable + 1) (omega arith) sees (omega arith)
          (subst (λ (z : PathSize). c.args.table.0 < z.tables) (sym c.requires.table.1) there),
    )

pub invariant_of-member : goal.invariant_of-member
invariant_of-member g c = let m = c.args.member.now in
    let few = c.args.self.now.fits.few_tables in let there = c.requires.there.0 in
    let d = c.store.ensures.2 m.number c.args.table m.role (omega arith) refl in
    record {
      role = ap (λ (v : View). v.role) d.0.0 ∙ m.role;
      counted = m.counted ∙ sym (ap (λ (v : View). issued_in v.trail) d.0.0);
      ended = m.ended ∙ sym (ap (λ (v : View). last_end_in v.trail) d.0.0);
    }

pub returns-clause-same : goal.returns-clause-same
returns-clause-same g c = let m = c.args.member.now in
    let few = c.args.self.now.fits.few_tables in let there = c.requires.there.0 in
    let d = c.store.ensures.2 m.number c.args.table m.role (omega arith) refl in
    (c.store.ensures.0, refl, d.1)

pub returns-clause-step : goal.returns-clause-step
returns-clause-step g c = let m = c.args.member.now in
    let few = c.args.self.now.fits.few_tables in let there = c.requires.there.0 in
    let d = c.store.ensures.2 m.number c.args.table m.role (omega arith) refl in
    record { view = d.0.0; was = d.0.1 }

pub returns-clause-was : goal.returns-clause-was
returns-clause-was g c = let m = c.args.member.now in
    let few = c.args.self.now.fits.few_tables in let there = c.requires.there.0 in
    let d = c.store.ensures.2 m.number c.args.table m.role (omega arith) refl in
    let up : c.args.memtable + 1 ≡ suc c.args.memtable = omega arith in
    (d.2.0, d.2.1 c.args.memtable up)
