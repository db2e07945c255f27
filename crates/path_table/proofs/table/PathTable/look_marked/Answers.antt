use Rattle.std.proofs.Common.{ap, ◌∙◌, arith}
use Rattle.path_core.specs.Parts.{stage_of}
use Rattle.path_rule.specs.declared.view.View.{View}
use Rattle.path_rule.proofs.seats.SwitchStages.{found_stage}
use Rattle.path_rule.proofs.seats.LeastStays.{look_keeps}
use Rattle.path_table.proofs.table.PathTable.look_marked.Goals as goal

pub returns-clause-stage : goal.returns-clause-stage
returns-clause-stage g c = let m = c.args.member.now in let L = c.look_log-key in
    let few = c.args.self.now.fits.few_tables in let there = c.requires.there in
    let k = c.requires.stage in (
      k.1,
      ap (λ (v : View). stage_of v.part c.args.table.0) L.ensures.step.view
          ∙ found_stage m.seat.me.0 m.number c.args.table (omega arith) c.args.memtable L.result k.0
          k.1 k.2,
    )

pub returns-clause-keeps : goal.returns-clause-keeps
returns-clause-keeps g c = let L = c.look_log-key in
    look_keeps c.args.member.now.seat.me.0 L.new.member.seat.me.0 c.args.member.now.number
    c.args.table.0 L.result L.ensures.step
