use Rattle.std.proofs.Common.{◌∷◌, ap, ◌∙◌, subst}
use Rattle.atomic_table.specs.Table.{rest}
use Rattle.path_rule.specs.declared.lasting.Lasting.{Lasting}
use Rattle.path_rule.specs.declared.slot.Slot.{Slot}
use Rattle.path_rule.specs.Boxes.{desk_box}
use Rattle.path_rule.specs.SyncEnd.{stopped_by, TellsFaults}
use Rattle.path_rule.proofs.boxes.DeskFiled.{desk_filed, desk_refused, desk_undropped}
use Rattle.clog_base.proofs.Follows.{on_err}
use Rattle.path_rule.proofs.boxes.DeskLent.{on_desk, on_ok_with}
use Rattle.path_table.proofs.table.PathTable.put_table.Goals as goal

pub publish_on-done-requires : goal.publish_on-done-requires
publish_on-done-requires g c = let m = c.args.member in
    let D = on_desk g.K.Keeper.holds c.in-Turn.desk m.seat.me c.requires.desk
    (c.slot_mut.ensures.value
    ∙ ap (λ (y : Slot _). (desk_box, y) ∷ rest m.seat.me.1) c.in-Turn.is) in record {
      there = c.requires.there;
      may = c.requires.put (g.K.Keeper.holds c.in-Turn.desk.keeper) D.0;
    }

pub returns-clause-put : goal.returns-clause-put
returns-clause-put g c = let m = c.args.member in let P = c.publish_on-done.ensures in
    on_ok_with c.publish_on-done.result _ _ _ _ P.stopped (λ stops S.
    desk_filed g.K.Keeper.holds c.in-Turn.desk c.publish_on-done.new.desk m.seat.me c.requires.desk
    (c.slot_mut.ensures.value
    ∙ ap (λ (y : Slot _). (desk_box, y) ∷ rest m.seat.me.1) c.in-Turn.is) P.same.0 P.same.1
    (record {
      table = c.args.table.0;
      lower = c.args.lower.0;
      upper = c.args.upper.0;
      cells = c.args.cells.now;
    }) stops S.0 S.1) P.publishes

pub returns-clause-refused : goal.returns-clause-refused
returns-clause-refused g c = let m = c.args.member in let P = c.publish_on-done.ensures in
    let r = c.publish_on-done.result in
    let top = c.slot_mut.ensures.value
    ∙ ap (λ (y : Slot _). (desk_box, y) ∷ rest m.seat.me.1) c.in-Turn.is in
    let D = on_desk g.K.Keeper.holds c.in-Turn.desk m.seat.me c.requires.desk top in
    on_err r _ _ P.refused (λ S. desk_refused g.K.Keeper.holds c.in-Turn.desk
    c.publish_on-done.new.desk m.seat.me c.requires.desk top P.same.0 P.same.1 S.1
    (stopped_by m.seat.me.0.hands.lasting.stopped r)
    (P.stopped ∙ ap (λ (l : Lasting). stopped_by l.stopped r) D.0) (record {
      table = c.args.table.0;
      lower = c.args.lower.0;
      upper = c.args.upper.0;
      cells = c.args.cells.now;
    }) S.0)

pub returns-clause-counts : goal.returns-clause-counts
returns-clause-counts g c = let m = c.args.member in
    let D = on_desk g.K.Keeper.holds c.in-Turn.desk m.seat.me c.requires.desk
    (c.slot_mut.ensures.value
    ∙ ap (λ (y : Slot _). (desk_box, y) ∷ rest m.seat.me.1) c.in-Turn.is) in
    subst (λ n. TellsFaults n c.publish_on-done.result)
    (ap (λ (l : Lasting). l.at_open) D.0) c.publish_on-done.ensures.counts

pub returns-clause-undropped : goal.returns-clause-undropped
returns-clause-undropped g c = let m = c.args.member in let P = c.publish_on-done.ensures in
    let r = c.publish_on-done.result in
    let top = c.slot_mut.ensures.value
    ∙ ap (λ (y : Slot _). (desk_box, y) ∷ rest m.seat.me.1) c.in-Turn.is in
    let D = on_desk g.K.Keeper.holds c.in-Turn.desk m.seat.me c.requires.desk top in
    on_err r _ _ P.refused (λ S. desk_undropped g.K.Keeper.holds c.in-Turn.desk
    c.publish_on-done.new.desk m.seat.me c.requires.desk top P.same.0 P.same.1 S.1
    (stopped_by m.seat.me.0.hands.lasting.stopped r)
    (P.stopped ∙ ap (λ (l : Lasting). stopped_by l.stopped r) D.0) (record {
      table = c.args.table.0;
      lower = c.args.lower.0;
      upper = c.args.upper.0;
      cells = c.args.cells.now;
    }) S.0)
