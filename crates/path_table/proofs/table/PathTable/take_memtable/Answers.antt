use Rattle.std.proofs.Common.{◌<◌, List, refl, sym, ap, ◌∙◌, subst, arith}
use Rattle.path_core.specs.declared.event.Event.TheVariants.{Look}
use Rattle.path_core.specs.declared.event.Place.TheVariants.{Newest}
use Rattle.path_core.specs.declared.note.EntryNote.{EntryNote}
use Rattle.path_rule.specs.declared.view.PathSize.{PathSize}
use Rattle.path_rule.specs.declared.view.View.{View}
use Rattle.path_rule.specs.Applying.{TookHeld}
use Rattle.path_rule.specs.Boxes.{memtable_box}
use Rattle.path_rule.specs.Calls.{DidAs}
use Rattle.path_rule.specs.HandsAfter.{with_held}
use Rattle.path_rule.specs.Lasts.{beside_of, shows_of}
use Rattle.path_rule.proofs.moves.MemtableSteps.{takes_memtable}
use Rattle.path_rule.specs.Issued.{issued_in}
use Rattle.path_table.specs.LastEnds.{last_end_in}
use Rattle.path_table.proofs.table.PathTable.take_memtable.Goals as goal

pub load-requires : goal.load-requires
load-requires g c = let t = c.args.self.now in let m = c.args.member.now in
    let k = t.table.shared.key.size in
    let o = beside_of (g.K.Keeper.holds t.table.shared.key.first.value) in let wide = t.wide in
    let few = t.fits.few_tables in let there = c.requires.there in (
      c.requires.table.0,
      omega arith,
      takes_memtable (shows_of g.K.Keeper.holds) o k t.table.shared.table_id.slots m.seat.id
          m.seat.me m.number m.role c.args.table c.args.memtable c.requires.rests c.requires.place
          (omega arith)
          (subst (λ (z : PathSize). c.args.table.0 < z.tables) (sym c.requires.table.1) there),
    )

pub invariant_of-member : goal.invariant_of-member
invariant_of-member g c = let m = c.args.member.now in
    let few = c.args.self.now.fits.few_tables in let there = c.requires.there in
    let q = c.load.ensures.2 m.number c.args.memtable c.args.table m.role (omega arith) refl
    c.requires.place in record {
      role = ap (λ (v : View). v.role) q.0.1.0 ∙ m.role;
      counted = m.counted ∙ sym (ap (λ (v : View). issued_in v.trail) q.0.1.0);
      ended = m.ended ∙ sym (ap (λ (v : View). last_end_in v.trail) q.0.1.0);
    }

pub returns-clause-same : goal.returns-clause-same
returns-clause-same g c = (c.load.ensures.0, refl)

pub returns-clause-step : goal.returns-clause-step
returns-clause-step g c = let m = c.args.member.now in
    let few = c.args.self.now.fits.few_tables in let there = c.requires.there in
    let q = c.load.ensures.2 m.number c.args.memtable c.args.table m.role (omega arith) refl
    c.requires.place in
    subst (λ (z : PathSize). (held : List EntryNote) × DidAs m.seat.me.0 m.number
    (Look m.number (Newest c.args.table)) c.load.result
    (with_held (memtable_box z.seats m.number c.args.table.0 c.args.memtable) held
    m.seat.me.0.hands) c.load.new.seat.me.0) c.requires.table.1
    (q.0.0, record { view = q.0.1.0; was = q.0.1.1 })

pub returns-clause-took : goal.returns-clause-took
returns-clause-took g c = let m = c.args.member.now in
    let few = c.args.self.now.fits.few_tables in let there = c.requires.there in
    let q = c.load.ensures.2 m.number c.args.memtable c.args.table m.role (omega arith) refl
    c.requires.place in
    subst (λ (z : PathSize).
    TookHeld (memtable_box z.seats m.number c.args.table.0 c.args.memtable) m.seat.me
    c.load.new.seat.me) c.requires.table.1 q.1
