use Rattle.std.proofs.Common.{None, ap, ◌∙◌}
use Rattle.path_rule.specs.declared.view.View.{View}
use Rattle.path_flush.proofs.FlushReadSteps.{on_read}
use Rattle.path_flush.proofs.flush_filing.end_reading.Goals as goal

pub returns-clause-same : goal.returns-clause-same
returns-clause-same g c = let E = c.end_read-newest.ensures in (
  (
    (E.same.0 ∙ c.requires.table.0, ap (λ (u : View). u.size) E.step.view ∙ c.requires.table.1),
    E.same.1,
  ),
  E.same.2,
)

pub returns-clause-steps : goal.returns-clause-steps
returns-clause-steps g c = let E = c.end_read-newest in
    on_read c.args.member.number c.args.table.0 E.result c.args.table None _ _ E.ensures.step

pub returns-clause-unread : goal.returns-clause-unread
returns-clause-unread g c = ap (λ (u : View). u.hands.reading) c.end_read-newest.ensures.step.view
