use Rattle.std.proofs.Common.{refl, arith}
use Rattle.path_core.specs.declared.event.Cursor.TheVariants.{Synced}
use Rattle.path_core.specs.declared.event.Event.TheVariants.{Look}
use Rattle.path_core.specs.declared.event.Place.TheVariants.{CursorWord}
use Rattle.path_rule.proofs.seats.Answering.{found_answers}
use Rattle.path_rule.proofs.seats.RoundsGo.{one}
use Rattle.path_table.proofs.table.PathTable.look_done.Goals as goal

pub returns-then-synced-upto-clause-answer : goal.returns-then-synced-upto-clause-answer
returns-then-synced-upto-clause-answer g c = λ wrote.
    let S = c.look_synced-synced in let m = c.args.member.now in
    found_answers m.number c.args.self.now.size.at_open c.args.upto S.result m.seat.me.0 _
    (let above = c.if-synced-upto.true in omega arith) wrote S.ensures.step

pub returns-else-synced-upto-clause-answer : goal.returns-else-synced-upto-clause-answer
returns-else-synced-upto-clause-answer g c = λ wrote.
    let S = c.look_synced-synced in let w = c.args.member.now.number in
    one w (Look w (CursorWord Synced)) S.result _ _ refl S.ensures.step
