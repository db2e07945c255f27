use Rattle.std.proofs.Common.{List, map, subst, ◌∙◌}
use Rattle.std.proofs.lemmas.List.{take_all}
use Rattle.clog_scan.specs.declared.whole.Whole.{Whole}
use Rattle.replay_merge.specs.Entries.{item_of}
use Rattle.replay_merge.specs.Logged.{IsLaterOf}
use Rattle.replay_merge.specs.Piped.{placed_of}
use Rattle.replay_merge.proofs.Tops.{Reaches, reaches_more, reaches_none}
use Rattle.replay_merge.proofs.alone.top_of.Goals as goal

pub loop-whole-init : goal.loop-whole-init
loop-whole-init c = reaches_none c.args.top

pub loop-whole-preserved : goal.loop-whole-preserved
loop-whole-preserved c =
    let l = c.loop-whole in
    let ws = c.as_slice-whole-items.result.now in
    let f = item_of c.args.batch.now.id in
    reaches_more f ws l.whole-index c.whole-item.result c.args.top l.top c.later-top.result
    c.loop-whole-test.true l.invariant
    (subst (λ (w : Whole). IsLaterOf l.top (placed_of (f w)).0 c.later-top.result) c.whole-item.is
    c.later-top.ensures)

pub returns : goal.returns
returns c =
    let l = c.loop-whole in
    subst (λ (ws : List Whole). Reaches (map (item_of c.args.batch.now.id) ws) c.args.top l.top)
    (take_all l.whole-index c.as_slice-whole-items.result.now c.loop-whole-test.false
    ∙ c.as_slice-whole-items.ensures.value) l.invariant
