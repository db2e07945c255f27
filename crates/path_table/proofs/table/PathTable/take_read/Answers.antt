use Rattle.std.proofs.Common.{◌≡◌, ◌<◌, List, Some, refl, sym, ap, ◌∙◌, subst, arith}
use Rattle.path_core.specs.declared.event.Event.TheVariants.{Look}
use Rattle.path_core.specs.declared.event.Place.TheVariants.{Newest}
use Rattle.path_core.specs.declared.note.EntryNote.{EntryNote}
use Rattle.path_rule.specs.declared.view.PathSize.{PathSize}
use Rattle.path_rule.specs.declared.view.View.{View}
use Rattle.path_rule.specs.Calls.{DidAs}
use Rattle.path_rule.specs.Flushes.{next_box, TookRead}
use Rattle.path_rule.specs.HandsAfter.{box_read, with_reading}
use Rattle.path_rule.specs.Lasts.{beside_of, shows_of}
use Rattle.path_rule.proofs.moves.ReadSteps.{takes_read}
use Rattle.path_rule.specs.Issued.{issued_in}
use Rattle.path_table.specs.LastEnds.{last_end_in}
use Rattle.path_table.proofs.table.PathTable.take_read.Goals as goal

pub load-requires : goal.load-requires
load-requires g c = let t = c.args.self.now in let m = c.args.member.now in
    let k = t.table.shared.key.size in
    let o = beside_of (g.K.Keeper.holds t.table.shared.key.first.value) in let wide = t.wide in
    let same : k.seats ≡ t.size.seats = ap (λ (z : PathSize). z.seats) t.keyed in
    let more = c.requires.reads.1.3 in
    let few = t.fits.few_tables in let there = c.requires.there in (
      c.requires.table.0,
      omega arith,
      takes_read (shows_of g.K.Keeper.holds) o k t.table.shared.table_id.slots m.seat.id
          m.seat.me m.number m.role c.args.table c.requires.reads.0
          (c.requires.reads.1.0, c.requires.reads.1.1, c.requires.reads.1.2, omega arith)
          (omega arith)
          (subst (λ (z : PathSize). c.args.table.0 < z.tables) (sym c.requires.table.1) there),
    )

pub invariant_of-member : goal.invariant_of-member
invariant_of-member g c = let m = c.args.member.now in let q = c.requires.reads in
    let few = c.args.self.now.fits.few_tables in let there = c.requires.there in
    let d = c.load.ensures.2 m.number c.args.table q.0 m.role (omega arith) refl q.1.0 in
    record {
      role = ap (λ (v : View). v.role) d.1.0 ∙ m.role;
      counted = m.counted ∙ sym (ap (λ (v : View). issued_in v.trail) d.1.0);
      ended = m.ended ∙ sym (ap (λ (v : View). last_end_in v.trail) d.1.0);
    }

pub returns-clause-same : goal.returns-clause-same
returns-clause-same g c = (c.load.ensures.0, refl)

pub returns-clause-step : goal.returns-clause-step
returns-clause-step g c = let m = c.args.member.now in
    let few = c.args.self.now.fits.few_tables in let there = c.requires.there in λ q is.
    let d = c.load.ensures.2 m.number c.args.table q m.role (omega arith) refl is in
    subst (λ (z : PathSize). (held : List EntryNote) × DidAs m.seat.me.0 m.number
    (Look m.number (Newest c.args.table)) c.load.result
    (with_reading (Some (box_read (next_box z.seats q) held q)) m.seat.me.0.hands)
    c.load.new.seat.me.0 × TookRead (next_box z.seats q) held m.seat.me c.load.new.seat.me)
    c.requires.table.1 (d.0, record { view = d.1.0; was = d.1.1 }, d.2)
