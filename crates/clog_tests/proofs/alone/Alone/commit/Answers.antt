use Rattle.std.proofs.Common.{sym, ◌∙◌}
use Rattle.clog_tests.proofs.alone.Alone.commit.Goals as goal

pub commit-seat-requires-clause-prepared : goal.commit-seat-requires-clause-prepared
commit-seat-requires-clause-prepared g c = (
  c.in-Some.sizes,
  c.args.line,
  c.in_ok-write.ensures.0,
  c.in_ok-write.ensures.1,
  c.in-Some.ensures.same.0 ∙ sym c.args.self.sized.0,
  c.in-Some.ensures.same.2 ∙ sym c.args.self.sized.1,
)
