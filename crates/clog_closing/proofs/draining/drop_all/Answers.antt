use Rattle.std.proofs.Common.{Err, Result, ℕ, ◌∙◌, ap, subst}
use Rattle.clog_spec.specs.Sizes.{most_segments}
use Rattle.path_core.specs.declared.keeper.KeeperFault.{KeeperFault}
use Rattle.path_core.specs.Keeper.{HasKeeperCause, Holding}
use Rattle.clog_closing.specs.Drained.{held_in}
use Rattle.clog_closing.proofs.Begins.{begun_drop, begun_refused}
use Rattle.clog_closing.proofs.Going.{ends_by, keeps_drop, keeps_refused, same_end}
use Rattle.clog_closing.proofs.GoodDrops.{good_drop, good_refused}
use Rattle.clog_closing.proofs.draining.drop_all.Goals as goal

pub returns-in-Ok-clause-on : goal.returns-in-Ok-clause-on
returns-in-Ok-clause-on g c =
    let held = held_in g.D.Disk g.row.D.coded.code in
    let before = held c.args.store.now in
    let now = held c.drop_due.new.self in
    let drops = c.in-Ok.ensures.drops in
    record {
      begun = λ upper reach. begun_drop upper before now most_segments _ drops;
      good = λ good holds. good_drop before now most_segments _ drops good;
      keeps = keeps_drop before now most_segments _ drops;
      ends = record {
        stopped = ap (λ (h : Holding). h.stopped) drops.holds ∙ c.requires.runs;
        counts = tt;
      };
      first = c.drop_due.ensures.first;
      lives = c.drop_due.ensures.lives;
    }

pub returns-in-Err-clause-on : goal.returns-in-Err-clause-on
returns-in-Err-clause-on g c =
    let held = held_in g.D.Disk g.row.D.coded.code in
    let before = held c.args.store.now in
    let now = held c.drop_due.new.self in
    let refused = c.in-Err.ensures.refused in
    record {
      begun = λ upper reach. begun_refused upper before now most_segments refused;
      good = λ good holds. good_refused before now most_segments refused good;
      keeps = keeps_refused before now most_segments refused;
      ends = same_end now c.in-Err.fault
          (ends_by before now (Err c.in-Err.fault) c.requires.runs
          (subst (λ (r : Result ℕ KeeperFault). HasKeeperCause before now r) c.in-Err.is
          c.drop_due.ensures.cause));
      first = c.drop_due.ensures.first;
      lives = c.drop_due.ensures.lives;
    }
