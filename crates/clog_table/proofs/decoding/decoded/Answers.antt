use Rattle.clog_table.proofs.HeadParts.{head_is_long}
use Rattle.clog_table.proofs.Ending.{rest_behind, refused_at_end, refused_in_cells, is_file}
use Rattle.clog_table.proofs.decoding.decoded.Goals as goal

pub judge_end-requires : goal.judge_end-requires
judge_end-requires c =
    rest_behind c.args.table c.args.bytes.now c.in_ok-head.head c.in-Ok.cells c.in-Ok.rest.now
    c.in_ok-head.ensures c.in-Ok.ensures.0 c.in-Ok.ensures.1

pub returns-in-Ok-judge_end : goal.returns-in-Ok-judge_end
returns-in-Ok-judge_end c =
    is_file c.args.table c.args.bytes.now c.in_ok-head.head c.in-Ok.cells c.in-Ok.rest.now
    c.in_ok-head.ensures c.in-Ok.ensures.0 c.in-Ok.ensures.1 c.in-Ok-judge_end.ensures

pub returns-in-Err-judge_end : goal.returns-in-Err-judge_end
returns-in-Err-judge_end c =
    refused_at_end c.args.table c.args.bytes.now c.in_ok-head.head c.in-Ok.cells c.in-Ok.rest.now
    c.in_ok-head.ensures c.in-Ok.ensures.0 c.in-Ok.ensures.1 c.in-Err-judge_end.fault
    c.in-Err-judge_end.ensures

pub cells_of-requires : goal.cells_of-requires
cells_of-requires c =
    head_is_long c.args.bytes.now c.in_ok-head.head c.in_ok-head.ensures.begins

pub returns-in-Err : goal.returns-in-Err
returns-in-Err c =
    refused_in_cells c.args.table c.args.bytes.now c.in_ok-head.head c.in-Err.fault
    c.in_ok-head.ensures c.in-Err.ensures
