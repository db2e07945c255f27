use Rattle.clog_table.specs.Format.{file_of}
use Rattle.clog_table.proofs.HeadParts.{head_is_long}
use Rattle.clog_table.proofs.Ending.{
  rest_behind,
  refused_at_end,
  refused_in_cells,
  is_file,
  same_head,
}
use Rattle.clog_table.proofs.checking.check_file.Goals as goal

pub rest_of-requires : goal.rest_of-requires
rest_of-requires c =
    head_is_long c.args.bytes.now c.in_ok-head.head c.in_ok-head.ensures.begins

pub judge_end-requires : goal.judge_end-requires
judge_end-requires c =
    let read = c.in-Ok.ensures.exact in
    rest_behind c.args.table c.args.bytes.now c.in_ok-head.head read.0 c.in-Ok.rest.now
    c.in_ok-head.ensures read.1 read.2

pub returns-in-Ok-judge_end-clause-exact : goal.returns-in-Ok-judge_end-clause-exact
returns-in-Ok-judge_end-clause-exact c =
    let read = c.in-Ok.ensures.exact in
    let head = c.in_ok-head.head in (
      file_of c.args.table head.lower head.upper read.0,
      is_file c.args.table c.args.bytes.now head read.0 c.in-Ok.rest.now c.in_ok-head.ensures
          read.1 read.2 c.in-Ok-judge_end.ensures,
      same_head c.args.table c.args.bytes.now head read.0 c.in-Ok.rest.now c.in_ok-head.ensures
          read.1 read.2,
    )

pub returns-in-Err-judge_end-clause-exact : goal.returns-in-Err-judge_end-clause-exact
returns-in-Err-judge_end-clause-exact c =
    let read = c.in-Ok.ensures.exact in
    refused_at_end c.args.table c.args.bytes.now c.in_ok-head.head read.0 c.in-Ok.rest.now
    c.in_ok-head.ensures read.1 read.2 c.in-Err-judge_end.fault c.in-Err-judge_end.ensures

pub returns-in-Err-clause-exact : goal.returns-in-Err-clause-exact
returns-in-Err-clause-exact c =
    refused_in_cells c.args.table c.args.bytes.now c.in_ok-head.head c.in-Err.fault
    c.in_ok-head.ensures c.in-Err.ensures.exact
