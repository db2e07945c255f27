use Rattle.std.proofs.Common.{◌<◌, [], ◌∙◌, subst}
use Rattle.path_rule.specs.declared.view.PathSize.{PathSize}
use Rattle.path_flush.proofs.FilingGathers.{gathered_same}
use Rattle.path_flush.proofs.FilingGoes.{of_quiet, of_read, then_filing}
use Rattle.path_flush.proofs.SwitchGoes.{quiet_round}
use Rattle.path_flush.proofs.flush_retiring.read_whole.Goals as goal

pub start_read-member-requires-clause-there : goal.start_read-member-requires-clause-there
start_read-member-requires-clause-there g c = subst (λ (z : PathSize). c.args.table.0 < z.tables)
    c.requires.table.1 c.requires.holds.holder.there

pub gather_apart-member-requires-clause-holds : goal.gather_apart-member-requires-clause-holds
gather_apart-member-requires-clause-holds g c = let S = c.start_read-member.ensures in
    let H = c.requires.holds in record {
      holder = S.steps.holder H.holder;
      unsynced = S.steps.sync ∙ H.unsynced;
      bare = S.same.1 ∙ H.bare;
    }

pub gather_apart-member-requires-clause-there : goal.gather_apart-member-requires-clause-there
gather_apart-member-requires-clause-there g c = (
  subst (λ (z : PathSize). c.args.table.0 < z.tables) c.requires.table.1
      c.requires.holds.holder.there,
  c.requires.there,
)

pub returns-clause-same : goal.returns-clause-same
returns-clause-same g c = let S = c.start_read-member.ensures in
    let R = c.gather_apart-member.ensures in let T = c.take_sync_beside.ensures in
    (T.same.0, T.same.1 ∙ (R.same.1 ∙ S.same.0.1))

pub returns-clause-steps : goal.returns-clause-steps
returns-clause-steps g c = let S = c.start_read-member in
    let R = c.gather_apart-member in let T = c.take_sync_beside in let t = c.args.table.0 in
    let w = c.args.member.number in let z = S.result.number in
    let r = R.result.0.number in let v = c.args.member.seat.me.0 in
    let s = S.result.seat.me.0 in
    let x = R.result.0.seat.me.0 in let after = T.result.seat.me.0 in
    let first = S.ensures.same.0.1 in
    then_filing w r t v x after (R.ensures.same.1 ∙ first)
    (then_filing w z t v s x first (of_read w t v s S.ensures.steps)
    (of_read z t s x R.ensures.steps))
    (of_quiet r t x after (quiet_round r [] x after T.ensures.steps) (T.ensures.tables t))

pub returns-clause-gathered : goal.returns-clause-gathered
returns-clause-gathered g c = let R = c.gather_apart-member in let T = c.take_sync_beside in
    gathered_same c.args.path.now.size.seats c.args.table c.args.memtable R.result.1
    R.result.0.seat.me.0.hands T.result.seat.me.0.hands T.ensures.steps.reading
    R.ensures.gathered
