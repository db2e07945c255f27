use Rattle.std.proofs.Common.{sym, refl, ap, ◌∙◌, arith}
use Rattle.op_core.specs.declared.count.Order.TheVariants.{Write}
use Rattle.path_core.specs.declared.event.Place.TheVariants.{Oldest}
use Rattle.path_core.specs.Parts.{found_of}
use Rattle.path_rule.specs.declared.view.View.{View}
use Rattle.path_rule.proofs.moves.Looks.{looks}
use Rattle.path_rule.proofs.seats.HolderLooks as know
use Rattle.path_rule.specs.Lasts.{beside_of, shows_of}
use Rattle.path_rule.specs.Issued.{issued_in}
use Rattle.path_table.specs.LastEnds.{last_end_in}
use Rattle.path_table.proofs.table.PathTable.look_passed.Goals as goal

pub load-requires : goal.load-requires
load-requires g c = let t = c.args.self.now in let m = c.args.member.now in
    let k = t.table.shared.key.size in
    let o = beside_of (g.K.Keeper.holds t.table.shared.key.first.value) in let wide = t.wide in (
      c.requires.0,
      omega arith,
      looks (shows_of g.K.Keeper.holds) o k t.table.shared.table_id.slots m.seat.id
          m.seat.me m.number m.role (Oldest Write) tt tt,
    )

pub invariant_of-member : goal.invariant_of-member
invariant_of-member g c = let m = c.args.member.now in
    let d = c.load.ensures.2 m.number (Oldest Write) m.role tt tt refl in
    record {
      role = ap (λ (v : View). v.role) d.0.0.0 ∙ m.role;
      counted = m.counted ∙ sym (ap (λ (v : View). issued_in v.trail) d.0.0.0);
      ended = m.ended ∙ sym (ap (λ (v : View). last_end_in v.trail) d.0.0.0);
    }

pub returns-clause-same : goal.returns-clause-same
returns-clause-same g c = let m = c.args.member.now in
    let d = c.load.ensures.2 m.number (Oldest Write) m.role tt tt refl in
    (c.load.ensures.0, refl, d.0.1)

pub returns-clause-step : goal.returns-clause-step
returns-clause-step g c = let m = c.args.member.now in
    let d = c.load.ensures.2 m.number (Oldest Write) m.role tt tt refl in
    record { view = d.0.0.0; was = d.0.0.1 }

pub returns-clause-found : goal.returns-clause-found
returns-clause-found g c = let m = c.args.member.now in
    let d = c.load.ensures.2 m.number (Oldest Write) m.role tt tt refl in
    ap (λ (v : View). (found_of Write v.part).oldest) d.0.0.0
    ∙ know.oldest_seen m.seat.me.0 m.number c.load.result Write
