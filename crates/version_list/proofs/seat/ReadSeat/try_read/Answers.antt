use Rattle.std.proofs.Common.{◌≤◌, List, length, arith, subst}
use mathlib.Core.List.{IsPrefix}
use Rattle.version_list.proofs.Fronts.{prefix_self}
use Rattle.version_list.proofs.seat.ReadSeat.try_read.Goals as goal

pub returns-then-len-clause-seen : goal.returns-then-len-clause-seen
returns-then-len-clause-seen g c =
    let seen = c.self.inside.seen in
    subst (λ (xs : List _). IsPrefix xs seen) c.self.view_is (prefix_self seen)

pub returns-clause-answer : goal.returns-clause-answer
returns-clause-answer g c =
    let most : length c.self.inside.seen ≤ length c.side.inside.front =
    omega (arith, c.if-len.false, c.len.ensures, c.len-2.ensures) in
    (c.side.inside.value, rw (c.longer.ensures.longer most) c.side.invariant, c.ask_of.ensures)
