use Rattle.std.proofs.Common.{◌∷◌, ap, ◌∙◌, subst, arith}
use Rattle.atomic_table.specs.Table.{rest}
use Rattle.path_rule.specs.declared.lasting.Lasting.{Lasting}
use Rattle.path_rule.specs.declared.slot.Slot.{Slot}
use Rattle.path_rule.specs.Boxes.{desk_box}
use Rattle.path_rule.specs.SyncEnd.{stopped_by, TellsFaults}
use Rattle.path_rule.proofs.boxes.DeskFiled.{all_dropped, all_gone, some_dropped}
use Rattle.path_rule.proofs.boxes.DeskLent.{on_desk}
use Rattle.path_table.proofs.table.PathTable.drop_due.Goals as goal

pub returns-clause-dropped : goal.returns-clause-dropped
returns-clause-dropped g c = let m = c.args.member in let P = c.discard_on-done.ensures in
    let r = c.discard_on-done.result in let small = c.requires.small in
    let top = c.slot_mut.ensures.value
    ∙ ap (λ (y : Slot _). (desk_box, y) ∷ rest m.seat.me.1) c.in-Turn.is in
    let D = on_desk g.K.Keeper.holds c.in-Turn.desk m.seat.me c.requires.desk top in
    some_dropped g.K.Keeper.holds c.in-Turn.desk c.discard_on-done.new.desk m.seat.me
    c.requires.desk top P.same.0 P.same.1 P.same.2 (stopped_by m.seat.me.0.hands.lasting.stopped r)
    (P.stopped ∙ ap (λ (l : Lasting). stopped_by l.stopped r) D.0) _ c.args.synced.0
    (omega arith) c.requires.turn.0 c.requires.turn.1 r P.drops P.refused

pub returns-clause-all : goal.returns-clause-all
returns-clause-all g c = let m = c.args.member in let P = c.discard_on-done.ensures in
    let r = c.discard_on-done.result in let small = c.requires.small in
    let top = c.slot_mut.ensures.value
    ∙ ap (λ (y : Slot _). (desk_box, y) ∷ rest m.seat.me.1) c.in-Turn.is in
    let D = on_desk g.K.Keeper.holds c.in-Turn.desk m.seat.me c.requires.desk top in
    all_dropped g.K.Keeper.holds c.in-Turn.desk c.discard_on-done.new.desk m.seat.me
    c.requires.desk top P.same.0 P.same.1 P.same.2 (stopped_by m.seat.me.0.hands.lasting.stopped r)
    (P.stopped ∙ ap (λ (l : Lasting). stopped_by l.stopped r) D.0) _ c.args.synced.0
    (omega arith) c.requires.turn.0 c.requires.turn.1 r P.drops

pub returns-clause-counts : goal.returns-clause-counts
returns-clause-counts g c = let m = c.args.member in
    let D = on_desk g.K.Keeper.holds c.in-Turn.desk m.seat.me c.requires.desk
    (c.slot_mut.ensures.value
    ∙ ap (λ (y : Slot _). (desk_box, y) ∷ rest m.seat.me.1) c.in-Turn.is) in
    subst (λ n. TellsFaults n c.discard_on-done.result)
    (ap (λ (l : Lasting). l.at_open) D.0) c.discard_on-done.ensures.counts

pub returns-clause-gone : goal.returns-clause-gone
returns-clause-gone g c = let m = c.args.member in let P = c.discard_on-done.ensures in
    let r = c.discard_on-done.result in let small = c.requires.small in
    let top = c.slot_mut.ensures.value
    ∙ ap (λ (y : Slot _). (desk_box, y) ∷ rest m.seat.me.1) c.in-Turn.is in
    let D = on_desk g.K.Keeper.holds c.in-Turn.desk m.seat.me c.requires.desk top in
    all_gone g.K.Keeper.holds c.in-Turn.desk c.discard_on-done.new.desk m.seat.me
    c.requires.desk top P.same.0 P.same.1 P.same.2 (stopped_by m.seat.me.0.hands.lasting.stopped r)
    (P.stopped ∙ ap (λ (l : Lasting). stopped_by l.stopped r) D.0) _ c.args.synced.0
    (omega arith) c.requires.turn.0 c.requires.turn.1 r P.drops P.refused
