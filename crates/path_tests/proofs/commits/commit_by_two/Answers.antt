use Rattle.path_tests.proofs.commits.commit_by_two.Goals as goal

pub commit-zero-requires-clause-prepared : goal.commit-zero-requires-clause-prepared
commit-zero-requires-clause-prepared g c = (
  c.in-Some.sizes,
  1,
  c.in_ok-first.ensures.0,
  c.in_ok-first.ensures.1,
  c.in_ok-path.ensures.sized.0,
  c.in_ok-path.ensures.sized.1,
)

pub commit-one-requires-clause-prepared : goal.commit-one-requires-clause-prepared
commit-one-requires-clause-prepared g c = (
  c.in-Some.sizes,
  2,
  c.in_ok-second.ensures.0,
  c.in_ok-second.ensures.1,
  c.in_ok-path.ensures.sized.0,
  c.in_ok-path.ensures.sized.1,
)
