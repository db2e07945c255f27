use Rattle.std.proofs.Common.{◌≡◌, ◌<◌, ◌∷◌, ◌++◌, [], Some, refl, sym, ap, ◌∙◌, subst, arith}
use Rattle.atomic_table.specs.Table.{rest}
use Rattle.path_rule.specs.declared.slot.Slot.TheVariants.{Notes}
use Rattle.path_rule.specs.declared.view.PathSize.{PathSize}
use Rattle.path_rule.specs.declared.view.View.{View}
use Rattle.path_rule.specs.Boxes.{memtable_box}
use Rattle.path_rule.specs.Lasts.{beside_of, shows_of}
use Rattle.path_rule.proofs.moves.MemtableSteps.{gives_memtable}
use Rattle.path_rule.specs.Issued.{issued_in}
use Rattle.path_table.specs.LastEnds.{last_end_in}
use Rattle.path_table.proofs.table.PathTable.give_memtable.Goals as goal

pub load-requires : goal.load-requires
load-requires g c = let t = c.args.self.now in let m = c.args.member.now in
    let k = t.table.shared.key.size in let n = c.requires.note in
    let o = beside_of (g.K.Keeper.holds t.table.shared.key.first.value) in let wide = t.wide in
    let few = t.fits.few_tables in let there = c.requires.there in (
      c.requires.table.0,
      omega arith,
      gives_memtable (shows_of g.K.Keeper.holds) o k t.table.shared.table_id.slots m.seat.id
          m.seat.me m.number m.role c.args.table c.args.memtable n.0 (rest m.seat.me.1)
          c.requires.place
          (subst (λ (z : PathSize). m.seat.me.0.hands.memtable_box
          ≡ Some (memtable_box z.seats m.number c.args.table.0 c.args.memtable))
          (sym c.requires.table.1) n.2) n.1
          (subst (λ (z : PathSize). m.seat.me.1
          ≡ (
            memtable_box z.seats m.number c.args.table.0 c.args.memtable,
            Notes (m.seat.me.0.hands.held ++ n.0 ∷ []),
          ) ∷ rest m.seat.me.1)
          (sym c.requires.table.1) n.3) (omega arith)
          (subst (λ (z : PathSize). c.args.table.0 < z.tables) (sym c.requires.table.1) there),
    )

pub invariant_of-member : goal.invariant_of-member
invariant_of-member g c = let m = c.args.member.now in let n = c.requires.note in
    let few = c.args.self.now.fits.few_tables in let there = c.requires.there in
    let q = c.load.ensures.2 m.number c.args.memtable c.args.table n.0 m.role (omega arith) refl
    c.requires.place (subst (λ (z : PathSize). m.seat.me.1
    ≡ (
      memtable_box z.seats m.number c.args.table.0 c.args.memtable,
      Notes (m.seat.me.0.hands.held ++ n.0 ∷ []),
    ) ∷ rest m.seat.me.1)
    (sym c.requires.table.1) n.3) in
    record {
      role = ap (λ (v : View). v.role) q.0.0 ∙ m.role;
      counted = m.counted ∙ sym (ap (λ (v : View). issued_in v.trail) q.0.0);
      ended = m.ended ∙ sym (ap (λ (v : View). last_end_in v.trail) q.0.0);
    }

pub returns-clause-same : goal.returns-clause-same
returns-clause-same g c = let m = c.args.member.now in let n = c.requires.note in
    let few = c.args.self.now.fits.few_tables in let there = c.requires.there in
    let q = c.load.ensures.2 m.number c.args.memtable c.args.table n.0 m.role (omega arith) refl
    c.requires.place (subst (λ (z : PathSize). m.seat.me.1
    ≡ (
      memtable_box z.seats m.number c.args.table.0 c.args.memtable,
      Notes (m.seat.me.0.hands.held ++ n.0 ∷ []),
    ) ∷ rest m.seat.me.1)
    (sym c.requires.table.1) n.3) in (c.load.ensures.0, refl, q.1)

pub returns-clause-step : goal.returns-clause-step
returns-clause-step g c = let m = c.args.member.now in
    let few = c.args.self.now.fits.few_tables in let there = c.requires.there in
    λ note has. let q = c.load.ensures.2 m.number c.args.memtable c.args.table note m.role
    (omega arith) refl c.requires.place (subst (λ (z : PathSize). m.seat.me.1
    ≡ (
      memtable_box z.seats m.number c.args.table.0 c.args.memtable,
      Notes (m.seat.me.0.hands.held ++ note ∷ []),
    ) ∷ rest m.seat.me.1)
    (sym c.requires.table.1) has) in record { view = q.0.0; was = q.0.1 }
