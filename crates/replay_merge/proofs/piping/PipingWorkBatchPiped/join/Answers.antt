use Rattle.std.proofs.Common.{List, subst, sym}
use Rattle.std.proofs.lemmas.Grind.{flat_map-append}
use Rattle.replay_merge.specs.Entries.{Entry, all_items, items_of}
use Rattle.replay_merge.specs.Piped.{IsDone}
use Rattle.replay_merge.proofs.DoneSo.{piped_both}
use Rattle.replay_merge.proofs.piping.PipingWorkBatchPiped.join.Goals as goal

pub returns-in-Ok : goal.returns-in-Ok
returns-in-Ok g c = λ batches more one two.
    let tables = c.args.self.now.tables.now in
    let s = c.join_piped.new.state in
    subst (λ (es : List Entry). IsDone tables es s) (sym (flat_map-append items_of batches more))
    (piped_both tables (all_items batches) (all_items more) c.args.state.now c.args.other s
    c.in-Ok.ensures one two)
