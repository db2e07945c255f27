use Rattle.std.proofs.Common.{List, map, subst}
use Rattle.clog_scan.specs.declared.whole.Whole.{Whole}
use Rattle.replay_merge.specs.Entries.{item_of, thirds}
use Rattle.replay_merge.specs.Piped.{TakesItems, TakesPiped}
use Rattle.replay_merge.proofs.Rounds.{round_begun, round_goes_on, round_done}
use Rattle.replay_merge.proofs.batching.take_thirds.Goals as goal

pub loop-at-init : goal.loop-at-init
loop-at-init g c =
    round_begun c.args.piping.now.tables.now (item_of c.args.batch.now.id)
    c.as_slice-wholes.result.now c.args.first c.args.state.now

pub loop-at-preserved : goal.loop-at-preserved
loop-at-preserved g c =
    let l = c.loop-at in
    let tables = c.args.piping.now.tables.now in
    let f = item_of c.args.batch.now.id in
    round_goes_on tables f c.as_slice-wholes.result.now c.args.first l.at _ c.args.state.now l.state
    c.take_one.new.state c.loop-at-test.true l.invariant
    (subst (λ (w : Whole). TakesPiped tables (f w) l.state c.take_one.new.state)
    c.index-wholes-at.is (c.in_ok-take_one.ensures))

pub returns : goal.returns
returns g c =
    let l = c.loop-at in
    let tables = c.args.piping.now.tables.now in
    let f = item_of c.args.batch.now.id in
    subst (λ (ws : List Whole). TakesItems tables (thirds c.args.first (map f ws))
    c.args.state.now l.state) c.as_slice-wholes.ensures.value
    (round_done tables f c.as_slice-wholes.result.now c.args.first l.at c.args.state.now l.state
    c.loop-at-test.false l.invariant)
