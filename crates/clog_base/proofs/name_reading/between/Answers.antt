use Rattle.std.proofs.Common.{Some, None}
use Rattle.std.proofs.lemmas.Slice.Eq.{strip_prefix_is, strip_suffix_is}
use Rattle.clog_base.proofs.Readings.{nat_decides, not_between-front, not_between}
use Rattle.clog_base.proofs.name_reading.between.Goals as goal

pub returns-in-Some : goal.returns-in-Some
returns-in-Some c =
    not_between c.args.front.now c.args.back.now c.args.bytes.now c.in-Some.rest
    c.strip_suffix.result
    (strip_prefix_is nat_decides c.args.bytes.now c.args.front.now (Some c.in-Some.rest)
    c.in-Some.ensures.cases)
    (strip_suffix_is nat_decides c.in-Some.rest.now c.args.back.now c.strip_suffix.result
    c.strip_suffix.ensures.cases)

pub returns-in-None : goal.returns-in-None
returns-in-None c =
    not_between-front c.args.front.now c.args.back.now c.args.bytes.now
    (strip_prefix_is nat_decides c.args.bytes.now c.args.front.now None c.in-None.ensures.cases)
