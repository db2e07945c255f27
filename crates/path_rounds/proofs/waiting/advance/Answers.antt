use Rattle.std.proofs.Common.{refl}
use Rattle.op_core.specs.declared.count.Order.TheVariants.{Write, Append}
use Rattle.path_core.specs.declared.event.Event.TheVariants.{Advance}
use Rattle.path_rule.proofs.seats.RoundsGo.{one}
use Rattle.path_rounds.proofs.waiting.advance.Goals as goal

pub returns-in-Write-clause-steps : goal.returns-in-Write-clause-steps
returns-in-Write-clause-steps g c = let w = c.args.member.now.number in
    one w (Advance w Write c.args.group) c.args.group _ _ refl c.advance_write.ensures.step

pub returns-in-Append-clause-steps : goal.returns-in-Append-clause-steps
returns-in-Append-clause-steps g c = let w = c.args.member.now.number in
    one w (Advance w Append c.args.group) c.args.group _ _ refl c.advance_append.ensures.step
