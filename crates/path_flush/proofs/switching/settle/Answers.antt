use Rattle.std.proofs.Common.{◌<◌, inl, refl, ◌∙◌, subst}
use Rattle.path_rule.specs.declared.view.PathSize.{PathSize}
use Rattle.path_flush.proofs.FilingGoes.{then_unswitched}
use Rattle.path_flush.proofs.FlushPays.{paid_on}
use Rattle.path_flush.proofs.FlushReadSteps.{then_read}
use Rattle.path_flush.proofs.SwitchGoes.{retires_behind}
use Rattle.path_flush.proofs.switching.settle.Goals as goal

pub start_read-member-requires-clause-there : goal.start_read-member-requires-clause-there
start_read-member-requires-clause-there g c = subst (λ (z : PathSize). c.args.table.0 < z.tables)
    c.requires.table.1 c.requires.holds.holder.there

pub start_read-member-requires-clause-stage : goal.start_read-member-requires-clause-stage
start_read-member-requires-clause-stage g c = let D = c.requires.drained in
    inl (c.args.group, D.stage, D.past)

pub leave_empty-requires-clause-holds : goal.leave_empty-requires-clause-holds
leave_empty-requires-clause-holds g c = let S = c.start_read-member.ensures in
    let B = c.read_boxes-member.ensures in let H = c.requires.holds in
    let R = then_read c.args.member.number _ c.args.table.0 _ _ _ S.same.0.1 S.steps B.steps in
    record {
      holder = R.holder H.holder;
      unsynced = R.sync ∙ H.unsynced;
      bare = B.same.1 ∙ (S.same.1 ∙ H.bare);
    }

pub leave_filled-requires-clause-holds : goal.leave_filled-requires-clause-holds
leave_filled-requires-clause-holds g c = let S = c.start_read-member.ensures in
    let B = c.read_boxes-member.ensures in let H = c.requires.holds in
    let R = then_read c.args.member.number _ c.args.table.0 _ _ _ S.same.0.1 S.steps B.steps in
    record {
      holder = R.holder H.holder;
      unsynced = R.sync ∙ H.unsynced;
      bare = B.same.1 ∙ (S.same.1 ∙ H.bare);
    }

pub leave_empty-requires-clause-barrier : goal.leave_empty-requires-clause-barrier
leave_empty-requires-clause-barrier g c = let S = c.start_read-member.ensures in
    let B = c.read_boxes-member.ensures in
    let R = then_read c.args.member.number _ c.args.table.0 _ _ _ S.same.0.1 S.steps B.steps in
    R.stage ∙ c.requires.drained.stage

pub leave_filled-requires-clause-barrier : goal.leave_filled-requires-clause-barrier
leave_filled-requires-clause-barrier g c = let S = c.start_read-member.ensures in
    let B = c.read_boxes-member.ensures in
    let R = then_read c.args.member.number _ c.args.table.0 _ _ _ S.same.0.1 S.steps B.steps in
    (c.args.memtable, R.stage ∙ c.requires.drained.stage)

pub returns-then-empty-clause-steps : goal.returns-then-empty-clause-steps
returns-then-empty-clause-steps g c = let S = c.start_read-member.ensures in
    let B = c.read_boxes-member.ensures in let w = c.args.member.number in
    let R = then_read w _ c.args.table.0 _ _ _ S.same.0.1 S.steps B.steps in
    then_unswitched w _ _ _ _ (B.same.0.1 ∙ S.same.0.1) (record { made = R.made; none = R.none })
    c.leave_empty.ensures.steps

pub returns-then-empty-clause-settled : goal.returns-then-empty-clause-settled
returns-then-empty-clause-settled g c = let S = c.start_read-member.ensures in
    let B = c.read_boxes-member.ensures in let w = c.args.member.number in
    let R = then_read w _ c.args.table.0 _ _ _ S.same.0.1 S.steps B.steps in (
      refl,
      retires_behind w _ c.args.table.0 c.args.memtable _ _ _ (B.same.0.1 ∙ S.same.0.1)
          R.made c.leave_empty.ensures.retires,
    )

pub returns-else-empty-clause-steps : goal.returns-else-empty-clause-steps
returns-else-empty-clause-steps g c = let S = c.start_read-member.ensures in
    let B = c.read_boxes-member.ensures in let w = c.args.member.number in
    let R = then_read w _ c.args.table.0 _ _ _ S.same.0.1 S.steps B.steps in
    then_unswitched w _ _ _ _ (B.same.0.1 ∙ S.same.0.1) (record { made = R.made; none = R.none })
    c.leave_filled.ensures.steps

pub leave_empty-requires-clause-paid : goal.leave_empty-requires-clause-paid
leave_empty-requires-clause-paid g c = let S = c.start_read-member.ensures in
    let B = c.read_boxes-member.ensures in let w = c.args.member.number in
    let R = then_read w _ c.args.table.0 _ _ _ S.same.0.1 S.steps B.steps in
    paid_on w _ _ (record { made = R.made; none = R.none }) c.requires.paid

pub leave_filled-requires-clause-paid : goal.leave_filled-requires-clause-paid
leave_filled-requires-clause-paid g c = let S = c.start_read-member.ensures in
    let B = c.read_boxes-member.ensures in let w = c.args.member.number in
    let R = then_read w _ c.args.table.0 _ _ _ S.same.0.1 S.steps B.steps in
    paid_on w _ _ (record { made = R.made; none = R.none }) c.requires.paid
