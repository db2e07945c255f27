use Rattle.std.proofs.Common.{◌<◌, ◌≤◌, None, sym, ap, ◌∙◌, subst}
use Rattle.path_rule.specs.declared.view.PathSize.{PathSize}
use Rattle.path_rule.specs.declared.view.View.{View}
use Rattle.path_rule.specs.Issued.{issued_in, opened_in}
use Rattle.path_flush.proofs.FilingGoes.{then_unswitched, unswitched}
use Rattle.path_flush.proofs.FlushReadSteps.{on_read}
use Rattle.path_flush.proofs.flush_retire.leave_filled.Goals as goal

pub end_read-newest-requires-clause-there : goal.end_read-newest-requires-clause-there
end_read-newest-requires-clause-there g c = subst (λ (z : PathSize). c.args.table.0 < z.tables)
    c.requires.table.1 c.requires.holds.holder.there

pub leave_passed-requires-clause-table : goal.leave_passed-requires-clause-table
leave_passed-requires-clause-table g c = let E = c.end_read-newest.ensures in
    (E.same.0 ∙ c.requires.table.0, ap (λ (u : View). u.size) E.step.view ∙ c.requires.table.1)

pub leave_passed-requires-clause-holds : goal.leave_passed-requires-clause-holds
leave_passed-requires-clause-holds g c = let m = c.args.member in let E = c.end_read-newest in
    let H = c.requires.holds in let t = c.args.table in
    let R = on_read m.number t.0 E.result t None m.seat.me.0 E.new.member.seat.me.0
    E.ensures.step in record {
      holder = R.holder H.holder;
      unsynced = R.sync ∙ H.unsynced;
      bare = E.ensures.same.2 ∙ H.bare;
    }

pub leave_passed-requires-clause-unread : goal.leave_passed-requires-clause-unread
leave_passed-requires-clause-unread g c =
    ap (λ (u : View). u.hands.reading) c.end_read-newest.ensures.step.view

pub leave_passed-requires-clause-barrier : goal.leave_passed-requires-clause-barrier
leave_passed-requires-clause-barrier g c = let m = c.args.member in let E = c.end_read-newest in
    let t = c.args.table in let B = c.requires.barrier in
    let R = on_read m.number t.0 E.result t None m.seat.me.0 E.new.member.seat.me.0
    E.ensures.step in (B.0, R.stage ∙ B.1)

pub leave_passed-requires-clause-paid : goal.leave_passed-requires-clause-paid
leave_passed-requires-clause-paid g c =
    subst (λ (v : View). opened_in v.trail ≤ issued_in v.trail)
    (sym c.end_read-newest.ensures.step.view) c.requires.paid

pub returns-clause-same : goal.returns-clause-same
returns-clause-same g c = let E = c.end_read-newest.ensures in let L = c.leave_passed.ensures in
    (L.same.0, L.same.1 ∙ E.same.1)

pub returns-clause-steps : goal.returns-clause-steps
returns-clause-steps g c = let w = c.args.member.number in let E = c.end_read-newest in
    let t = c.args.table in let R = on_read w t.0 E.result t None _ _ E.ensures.step in
    then_unswitched w _ _ _ _ E.ensures.same.1 (record { made = R.made; none = R.none })
    (unswitched _ _ _ c.leave_passed.ensures.steps)
