use Rattle.path_tests.proofs.going_on.flush_beside_write.Goals as goal

pub commit-zero-requires-clause-prepared : goal.commit-zero-requires-clause-prepared
commit-zero-requires-clause-prepared g c = (
  c.in-Some.sizes,
  1,
  c.in_ok-early.ensures.0,
  c.in_ok-early.ensures.1,
  c.in_ok-path.ensures.sized.0,
  c.in_ok-path.ensures.sized.1,
)

pub commit-two-requires-clause-prepared : goal.commit-two-requires-clause-prepared
commit-two-requires-clause-prepared g c = (
  c.in-Some.sizes,
  3,
  c.in_ok-beside.ensures.0,
  c.in_ok-beside.ensures.1,
  c.in_ok-path.ensures.sized.0,
  c.in_ok-path.ensures.sized.1,
)
