use Rattle.std.proofs.Common.{[], refl, ◌∙◌}
use Rattle.path_rule.proofs.seats.RoundsGo.{next, none_yet}
use Rattle.path_flush.proofs.flush_turn.take_sync_beside.Goals as goal

pub loop-init : goal.loop-init
loop-init g c = let m = c.args.member in record {
  next = tt;
  finite = tt;
  stays = ((c.requires.table.0, c.requires.table.1), refl);
  steps = none_yet m.number m.seat.me.0 m.seat.me.0 refl;
  tables = λ t. refl;
  holds = c.requires.holds;
}

pub returns-in-Ok-clause-same : goal.returns-in-Ok-clause-same
returns-in-Ok-clause-same g c = let I = c.loop.invariant in let O = c.in-Ok.ensures in
    (O.same.0, O.same.1 ∙ I.stays.1)

pub returns-in-Ok-clause-steps : goal.returns-in-Ok-clause-steps
returns-in-Ok-clause-steps g c = let I = c.loop.invariant in
    next c.args.member.number c.loop.member.number [] [] _ _ _ I.stays.1 I.steps
    c.in-Ok.ensures.steps

pub returns-in-Ok-clause-tables : goal.returns-in-Ok-clause-tables
returns-in-Ok-clause-tables g c = λ t. c.in-Ok.ensures.tables t ∙ c.loop.invariant.tables t

pub loop-preserved : goal.loop-preserved
loop-preserved g c = let I = c.loop.invariant in let E = c.in-Err.ensures in record {
  next = tt;
  finite = tt;
  stays = (E.same.0, E.same.1 ∙ I.stays.1);
  steps = next c.args.member.number c.loop.member.number [] [] _ _ _ I.stays.1 I.steps E.steps;
  tables = λ t. E.tables t ∙ I.tables t;
  holds = E.holds;
}
