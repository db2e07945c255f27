use Rattle.std.proofs.Common.{arith}
use Rattle.clog_base.proofs.NameLaws.{one_segment}
use Rattle.clog_words.proofs.commands.segment_id.Goals as goal

pub returns-else-said-eq6 : goal.returns-else-said-eq6
returns-else-said-eq6 c id segment =
    let same = one_segment c.args.name.now c.in-Some.said.version c.in-Some.said.id 6 id
    c.in-Some.ensures segment in
    omega (arith, same.0, c.if-said-eq6.false)
