use Rattle.std.proofs.Common.{sym, ◌∙◌}
use Rattle.clog_tests.proofs.pair.Pair.commit.Goals as goal

pub made_lasting-requires-clause-prepared : goal.made_lasting-requires-clause-prepared
made_lasting-requires-clause-prepared g c = (
  c.args.self.sizes,
  c.from.result,
  c.in_ok-write.ensures.0,
  c.in_ok-write.ensures.1,
  c.args.self.sized.0 ∙ sym c.args.self.sized.1,
  c.args.self.sized.2,
)

pub made_lasting-requires-2-clause-prepared : goal.made_lasting-requires-2-clause-prepared
made_lasting-requires-2-clause-prepared g c = (
  c.args.self.sizes,
  c.from.result,
  c.in_ok-write.ensures.0,
  c.in_ok-write.ensures.1,
  c.args.self.sized.0 ∙ sym c.args.self.sized.1,
  c.args.self.sized.2,
)
