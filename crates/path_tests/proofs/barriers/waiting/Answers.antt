use Rattle.std.proofs.Common.{ap, arith}
use Rattle.path_rule.specs.declared.view.View.{View}
use Rattle.path_rule.specs.Issued.{issued_in}
use Rattle.path_tests.proofs.barriers.waiting.Goals as goal

pub returns-clause-issued : goal.returns-clause-issued
returns-clause-issued g c =
    let took = (c.take_sync.ensures.hit c.if-take_sync-ne0.false).0 in
    let first = ap (λ (v : View). issued_in v.trail) took.3.view in
    let then = ap (λ (v : View). issued_in v.trail) c.seek_current.ensures.step.view in
    let last = ap (λ (v : View). issued_in v.trail) c.seek_oldest-oldest.ensures.step.view in
    let none = c.in_ok-member.ensures.issued in omega (arith, first, then, last, none)

pub returns-clause-room : goal.returns-clause-room
returns-clause-room g c = let last = c.seek_oldest-oldest in
    (last.result, last.ensures.turn.1, omega arith)
