use Rattle.std.proofs.Common.{◌∷◌, [], ◌++◌}
use Rattle.clog_cells.proofs.InOrder.{merge_in_order}
use Rattle.clog_table.proofs.decoding.push.Goals as goal

pub returns : goal.returns
returns c =
    merge_in_order (c.args.cells.now ++ (c.args.key, c.args.cell) ∷ []) c.put.new.self c.requires
    c.in-Ok.ensures.merged
