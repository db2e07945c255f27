use Rattle.std.proofs.Common.{ℕ, [], ◌∷◌, refl, sym, ap, ◌∙◌}
use Rattle.atomic_table.specs.Table.{rest, turned}
use Rattle.path_rule.specs.declared.slot.Slot.{Slot}
use Rattle.path_rule.specs.declared.slot.Slot.TheVariants.{Notes}
use Rattle.path_rule.specs.Boxes.{desk_box}
use Rattle.path_table.proofs.table.PathTable.keep_taken.Goals as goal

pub take_out-requires-clause-kept : goal.take_out-requires-clause-kept
take_out-requires-clause-kept g c =
    let b = c.requires.boxes in let taken = Notes c.args.member.seat.me.0.hands.taken in
    (taken, b.1 ∙ ap (λ l. (c.args.number, taken) ∷ rest l) (sym b.1), refl)

pub returns-clause-void : goal.returns-clause-void
returns-clause-void g c =
    let front : ℕ × Slot g.row.K.Denot = (c.args.number, Notes []) in
    let turned_once = c.turned_member-member.ensures.boxes
    ∙ ap (λ l. turned l) (c.take_out.ensures.boxes
    ∙ ap (λ l. front ∷ rest l) c.requires.boxes.1) in
    let desk = c.put_on_desk.ensures.desk in
    let behind = c.put_on_desk.ensures.others ∙ ap (λ l. rest l) turned_once in
    let put = desk.1 ∙ ap (λ l. (desk_box, desk.0) ∷ l) behind in
    let back = c.turned_member.ensures.boxes ∙ ap (λ l. turned l) put in
    (Notes [], back ∙ ap (λ l. front ∷ rest l) (sym back), refl)
