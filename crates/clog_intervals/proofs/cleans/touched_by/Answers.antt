use Rattle.clog_intervals.proofs.Unions.{points_in_order}
use Rattle.clog_intervals.proofs.cleans.touched_by.Goals as goal

pub returns : goal.returns
returns c = record {
  order = points_in_order c.args.intervals.now c.ended_below.result c.begun_up_to.result
      c.args.new.lower c.args.new.upper c.requires.apart c.requires.some c.ended_below.ensures.below
      c.begun_up_to.ensures.others c.ended_below.ensures.within;
  within = c.begun_up_to.ensures.within;
  below = c.ended_below.ensures.below;
  others = c.ended_below.ensures.others;
  begun = c.begun_up_to.ensures.begun;
  above = c.begun_up_to.ensures.others;
}
