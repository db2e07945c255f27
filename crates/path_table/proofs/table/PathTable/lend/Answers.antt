use Rattle.std.proofs.Common.{ℕ, List, ◌∷◌, refl, ap, ◌∙◌, subst}
use Rattle.atomic_table.specs.Table.{rest}
use Rattle.path_core.specs.declared.note.EntryNote.{EntryNote}
use Rattle.path_core.specs.Keeper.{IsParted}
use Rattle.path_rule.specs.declared.lasting.Lasting.{Lasting}
use Rattle.path_rule.specs.declared.slot.Slot.{Slot}
use Rattle.path_rule.specs.Boxes.{desk_box}
use Rattle.path_rule.specs.SyncEnd.{stopped_by, TellsFaults}
use Rattle.clog_base.proofs.Follows.{on_err}
use Rattle.path_rule.proofs.boxes.DeskLent.{
  on_desk,
  lent_synced,
  lent_refused,
  on_ok_with,
}
use Rattle.path_table.proofs.table.PathTable.lend.Goals as goal

pub lend_pending-done-requires : goal.lend_pending-done-requires
lend_pending-done-requires g c =
    let m = c.args.member in
    let D = on_desk g.K.Keeper.holds c.in-Turn.desk m.seat.me c.requires.desk
    (c.slot_mut.ensures.value
    ∙ ap (λ (y : Slot _). (desk_box, y) ∷ rest m.seat.me.1) c.in-Turn.is) in
    λ run left P. c.requires.lent run left
    (subst (λ (l : List EntryNote). IsParted c.args.upto l run left) D.1 P)
    (g.K.Keeper.holds c.in-Turn.desk.keeper) D.0

pub returns-clause-synced : goal.returns-clause-synced
returns-clause-synced g c = let m = c.args.member in
    on_ok_with c.lend_pending-done.result _ _ _ _ c.lend_pending-done.ensures.stopped (λ stops S. (
      lent_synced g.K.Keeper.holds c.in-Turn.desk c.lend_pending-done.new.desk m.seat.me
          c.args.upto c.requires.desk
          (c.slot_mut.ensures.value
          ∙ ap (λ (y : Slot _). (desk_box, y) ∷ rest m.seat.me.1) c.in-Turn.is)
          c.lend_pending-done.ensures.progress c.lend_pending-done.ensures.uppers stops S,
      refl,
    )) c.lend_pending-done.ensures.syncs

pub returns-clause-refused : goal.returns-clause-refused
returns-clause-refused g c = let m = c.args.member in
    on_err c.lend_pending-done.result _ _ c.lend_pending-done.ensures.refused (λ S. (
      lent_refused g.K.Keeper.holds c.in-Turn.desk c.lend_pending-done.new.desk m.seat.me
          c.args.upto c.requires.desk
          (c.slot_mut.ensures.value
          ∙ ap (λ (y : Slot _). (desk_box, y) ∷ rest m.seat.me.1) c.in-Turn.is)
          c.lend_pending-done.ensures.progress c.lend_pending-done.ensures.uppers
          (λ o. stopped_by o c.lend_pending-done.result)
          c.lend_pending-done.ensures.stopped S,
      refl,
    ))

pub returns-clause-counts : goal.returns-clause-counts
returns-clause-counts g c = let m = c.args.member in
    let D = on_desk g.K.Keeper.holds c.in-Turn.desk m.seat.me c.requires.desk
    (c.slot_mut.ensures.value
    ∙ ap (λ (y : Slot _). (desk_box, y) ∷ rest m.seat.me.1) c.in-Turn.is) in
    subst (λ (n : ℕ). TellsFaults n c.lend_pending-done.result)
    (ap (λ (l : Lasting). l.at_open) D.0) c.lend_pending-done.ensures.counts
