use Rattle.std.proofs.Common.{◌+◌, take, sym, subst, arith}
use Rattle.clog_crash.specs.Counts.{IsNameOfTable}
use Rattle.clog_folder.specs.Listing.{IsCount}
use Rattle.clog_folder.proofs.Counting.{counted_none, counted_one, few_counted}
use Rattle.clog_folder.proofs.listing.count_tables.Goals.{then-is_table, else-is_table}
use Rattle.clog_folder.proofs.listing.count_tables.Goals as goal

pub loop-name-preserved : goal.loop-name-preserved
loop-name-preserved c =
    let l = c.loop-name in
    let names = c.args.names.now in
    elim c.if-is_table.branch [
      | then-is_table w ↦ subst (IsCount IsNameOfTable (take (l.name-index + 1) names))
          (sym w.count-is)
          (counted_one IsNameOfTable names l.name-index l.count c.name-item.result
          c.loop-name-test.true c.name-item.is c.is_table.result c.is_table.ensures l.invariant
          w.if-is_table.true)
      | else-is_table w ↦ subst (IsCount IsNameOfTable (take (l.name-index + 1) names))
          (sym w.count-is)
          (counted_none IsNameOfTable names l.name-index l.count c.name-item.result
          c.loop-name-test.true c.name-item.is c.is_table.result c.is_table.ensures l.invariant
          w.if-is_table.false)
    ]

pub overflow_add-count : goal.overflow_add-count
overflow_add-count c =
    let l = c.loop-name in
    let low = few_counted IsNameOfTable c.args.names.now l.name-index l.count l.invariant in
    grind arith
