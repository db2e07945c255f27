use Rattle.std.proofs.Common.{sym, ap, ◌∙◌, subst, arith}
use Rattle.path_rule.specs.declared.view.PathSize.{PathSize}
use Rattle.path_rule.specs.Lasts.{shows_of}
use Rattle.path_rule.specs.Reached.{ReachesFound}
use Rattle.path_rule.specs.Rounds.{IsQuiet}
use Rattle.path_rule.proofs.seats.Answering.{may_size}
use Rattle.path_flush.specs.declared.flush_rounds.Round.{Round}
use Rattle.path_flush.specs.FlushFilings.{MakesRound, round_of}
use Rattle.path_flush.proofs.FilingGoes.{of_quiet}
use Rattle.path_flush.proofs.FilingRounds.{makes_round, round_before, round_behind, round_made}
use Rattle.path_flush.proofs.FilingTurns.{barred_quiet, both_round, of_both}
use Rattle.path_flush.proofs.FlushGoes.{issued_by}
use Rattle.path_flush.proofs.flush_rounds.sync_beside.Goals as goal

pub sync_round-member-requires-clause-turn : goal.sync_round-member-requires-clause-turn
sync_round-member-requires-clause-turn g c = let R = c.renew_sync-member.ensures in
    (R.holds.gives, R.knows.0, R.knows.1)

pub renew_sync-requires-clause-table : goal.renew_sync-requires-clause-table
renew_sync-requires-clause-table g c = let R = c.renew_sync-member in let S = c.sync_round-member in
    let opened = c.args.path.now.size.at_open in (
      S.ensures.same.0 ∙ R.ensures.same.0.0,
      may_size 1 R.result.number opened S.result.1 R.result.seat.me.0 S.result.0.seat.me.0
          S.ensures.answer ∙ R.ensures.same.0.1,
    )

pub renew_sync-requires-clause-holds : goal.renew_sync-requires-clause-holds
renew_sync-requires-clause-holds g c = let R = c.renew_sync-member in let S = c.sync_round-member in
    let opened = c.args.path.now.size.at_open in let t = c.args.table.0 in
    let made = round_made 1 R.result.number opened R.result.seat.me.0 S.result.0.seat.me.0
    S.result.1
    S.ensures.answer in
    both_round (shows_of g.K.Keeper.holds) R.result.seat.me S.result.0.seat.me R.result.number t
    made.2.0 made.2.1 (subst (λ st. IsQuiet st) (sym (R.ensures.tables t))
    (barred_quiet t c.args.member.seat.me.0.part c.requires.barred)) S.ensures.give.holds
    S.ensures.desk R.ensures.holds.holder

pub returns-clause-holds : goal.returns-clause-holds
returns-clause-holds g c = let R = c.renew_sync in
    of_both (shows_of g.K.Keeper.holds) c.args.table.0 R.result.seat.me R.ensures.holds

pub returns-clause-tables : goal.returns-clause-tables
returns-clause-tables g c = let R = c.renew_sync-member in let S = c.sync_round-member in
    let opened = c.args.path.now.size.at_open in let t = c.args.table.0 in
    let made = round_made 1 R.result.number opened R.result.seat.me.0 S.result.0.seat.me.0
    S.result.1
    S.ensures.answer in
    c.renew_sync.ensures.tables t
    ∙ (made.2.1.tables t (subst (λ st. IsQuiet st) (sym (R.ensures.tables t))
    (barred_quiet t c.args.member.seat.me.0.part c.requires.barred)) ∙ R.ensures.tables t)

pub returns-clause-reading : goal.returns-clause-reading
returns-clause-reading g c = let R = c.renew_sync-member in let S = c.sync_round-member in
    let opened = c.args.path.now.size.at_open in
    let made = round_made 1 R.result.number opened R.result.seat.me.0 S.result.0.seat.me.0
    S.result.1
    S.ensures.answer in
    c.renew_sync.ensures.reading ∙ (made.2.1.reading ∙ R.ensures.reading)

pub returns-clause-same : goal.returns-clause-same
returns-clause-same g c = let R = c.renew_sync-member.ensures in let S = c.sync_round-member in
    let T = c.renew_sync.ensures in (T.same.0, T.same.1 ∙ (S.ensures.same.1 ∙ R.same.1))

pub returns-clause-made : goal.returns-clause-made
returns-clause-made g c = let R = c.renew_sync-member in let S = c.sync_round-member in
    let T = c.renew_sync in let opened = c.args.path.now.size.at_open in
    let t = c.args.table.0 in let w = c.args.member.number in let z = R.result.number in
    let y = S.result.0.number in let v = c.args.member.seat.me.0 in let u = R.result.seat.me.0 in
    let x = S.result.0.seat.me.0 in let after = T.result.seat.me.0 in
    let size = R.ensures.same.0.1 in
    let quiet = subst (λ st. IsQuiet st) (sym (R.ensures.tables t))
    (barred_quiet t v.part c.requires.barred) in let r = round_of S.result.1 in
    subst (λ (o : Round). MakesRound w t v o after) (sym c.round_of-round.ensures)
    (round_before w y t v x after r (S.ensures.same.1 ∙ R.ensures.same.1)
    (round_behind w z t v u x r R.ensures.same.1 (of_quiet w t v u R.ensures.steps
    (R.ensures.tables t)) (makes_round z t opened u x S.result.1
    (ap (λ (k : PathSize). k.at_open) (sym size)) quiet S.ensures.answer
    (subst (λ (k : PathSize). ReachesFound k.capacity u.trail S.result.1) (sym size)
    S.ensures.reaches)))
    (of_quiet y t x after T.ensures.steps (T.ensures.tables t)))

pub sync_round-member-requires-clause-spends : goal.sync_round-member-requires-clause-spends
sync_round-member-requires-clause-spends g c = let R = c.renew_sync-member in
    let few = issued_by c.args.member.number _ _ R.ensures.steps.made in
    let low = c.requires.spends in omega (arith, few, low)
