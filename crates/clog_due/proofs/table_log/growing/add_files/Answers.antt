use Rattle.std.proofs.Common.{List, sym, subst, arith}
use Rattle.std.proofs.lemmas.List.{take_all}
use Rattle.path_core.specs.Keeper.{PutFile}
use Rattle.clog_due.specs.Dropping.{AreClean}
use Rattle.clog_due.proofs.TableLogs.{files_more}
use Rattle.clog_due.proofs.table_log.growing.add_files.Goals as goal

pub loop-index-preserved : goal.loop-index-preserved
loop-index-preserved c =
    files_more c.args.table.0 c.args.files.now c.loop-index.index c.index-files-index.result
    c.interval.result c.loop-index.cleans.intervals c.add_file.new.cleans.intervals
    c.loop-index-test.true (sym c.index-files-index.is) c.interval.ensures
    c.loop-index.invariant c.in_ok-add_file.ensures

pub returns : goal.returns
returns c =
    subst (λ (l : List PutFile). AreClean c.args.table.0 l c.loop-index.cleans.intervals)
    (take_all c.loop-index.index c.args.files.now (omega (arith, c.loop-index-test.false)))
    c.loop-index.invariant
