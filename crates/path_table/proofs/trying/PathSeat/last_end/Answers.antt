use Rattle.std.proofs.Common.{sym, subst}
use Rattle.path_rule.specs.Rounds.{WroteBelow}
use Rattle.path_table.proofs.seats.LastEnds.{wrote_below}
use Rattle.path_table.proofs.trying.PathSeat.last_end.Goals as goal

pub returns-clause-wrote : goal.returns-clause-wrote
returns-clause-wrote g c = let m = c.args.self.now.member in
    subst (λ k. WroteBelow k m.seat.me.0.trail) (sym m.ended) (wrote_below m.seat.me.0.trail)
