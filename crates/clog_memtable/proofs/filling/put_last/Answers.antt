use Rattle.clog_base.proofs.Follows.{on_ok}
use Rattle.clog_mutation.specs.Payload.{pair_of}
use Rattle.clog_memtable.proofs.Parts.{nothing_more, one_more}
use Rattle.clog_memtable.proofs.filling.put_last.Goals as goal

pub returns-then-update-table : goal.returns-then-update-table
returns-then-update-table c = nothing_more c.args.table c.args.cells.now
    (pair_of c.args.key c.args.update) c.if-update-table.true

pub returns : goal.returns
returns c = on_ok c.put_under.result _ _ c.put_under.ensures (one_more c.args.table
    c.args.cells.now c.put_under.new.cells (pair_of c.args.key c.args.update)
    c.if-update-table.false)
