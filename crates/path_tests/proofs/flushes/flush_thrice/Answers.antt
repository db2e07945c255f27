use Rattle.path_tests.proofs.flushes.flush_thrice.Goals as goal

pub commit-seat-requires-clause-prepared : goal.commit-seat-requires-clause-prepared
commit-seat-requires-clause-prepared g c = (
  c.in-Some.sizes,
  1,
  c.in_ok-one.ensures.0,
  c.in_ok-one.ensures.1,
  c.in_ok-path.ensures.sized.0,
  c.in_ok-path.ensures.sized.1,
)
