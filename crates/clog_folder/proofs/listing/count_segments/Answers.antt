use Rattle.std.proofs.Common.{◌+◌, take, sym, subst, arith}
use Rattle.clog_crash.specs.Folder.{IsNameOfSegment}
use Rattle.clog_folder.specs.Listing.{IsCount}
use Rattle.clog_folder.proofs.Counting.{counted_none, counted_one, few_counted}
use Rattle.clog_folder.proofs.listing.count_segments.Goals.{then-is_segment, else-is_segment}
use Rattle.clog_folder.proofs.listing.count_segments.Goals as goal

pub loop-name-preserved : goal.loop-name-preserved
loop-name-preserved c =
    let l = c.loop-name in
    let names = c.args.names.now in
    elim c.if-is_segment.branch [
      | then-is_segment w ↦ subst (IsCount IsNameOfSegment (take (l.name-index + 1) names))
          (sym w.count-is)
          (counted_one IsNameOfSegment names l.name-index l.count c.name-item.result
          c.loop-name-test.true c.name-item.is c.is_segment.result c.is_segment.ensures l.invariant
          w.if-is_segment.true)
      | else-is_segment w ↦ subst (IsCount IsNameOfSegment (take (l.name-index + 1) names))
          (sym w.count-is)
          (counted_none IsNameOfSegment names l.name-index l.count c.name-item.result
          c.loop-name-test.true c.name-item.is c.is_segment.result c.is_segment.ensures l.invariant
          w.if-is_segment.false)
    ]

pub overflow_add-count : goal.overflow_add-count
overflow_add-count c =
    let l = c.loop-name in
    let low = few_counted IsNameOfSegment c.args.names.now l.name-index l.count l.invariant in
    grind arith
