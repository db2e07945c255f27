use Rattle.std.proofs.Common.{◌≡◌, ◌<◌, ◌≤◌, length, take, sym, ap, ◌∙◌, arith}
use Rattle.path_core.specs.Next.{barred_tables}
use Rattle.path_machine.proofs.steps.BarriersPut.{
  barred_tables-skip,
  barred_tables-set,
  barred_tables-take,
}
use Rattle.path_machine.proofs.move_changes.bar_tables.Goals as goal
use Rattle.path_machine.proofs.move_changes.bar_tables.Goals.{then-is_some, else-is_some}

pub loop-i-preserved : goal.loop-i-preserved
loop-i-preserved c =
    let ss = c.args.seat.now in
    let ts = c.args.tables.now in
    let inside : c.loop-i.i < length ts = omega arith in
    let there : c.loop-i.i < length ss = omega arith in
    elim c.if-is_some.branch [
      | then-is_some w ↦ w.tables-is
          ∙ barred_tables-set c.args.group ss ts c.loop-i.tables c.loop-i.i _ _
          w.bar_table.new.table
          inside there (sym c.is_some.ensures ∙ w.if-is_some.true) c.loop-i.invariant
          w.bar_table.ensures
      | else-is_some w ↦ w.tables-is
          ∙ barred_tables-skip c.args.group ss ts c.loop-i.tables c.loop-i.i _
          inside there (sym c.is_some.ensures ∙ w.if-is_some.false) c.loop-i.invariant
    ]

pub returns : goal.returns
returns c =
    let ss = c.args.seat.now in
    let ts = c.args.tables.now in
    let all : c.loop-i.i ≡ length ts = omega arith in
    let few : length ts ≤ length ss = omega arith in
    c.loop-i.invariant ∙ (ap (λ k. barred_tables c.args.group (take k ss) ts) all
    ∙ barred_tables-take c.args.group ss ts few)
