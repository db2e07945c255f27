use Rattle.path_tests.proofs.flushes.flush_segments.Goals as goal

pub commit-seat-requires-clause-prepared : goal.commit-seat-requires-clause-prepared
commit-seat-requires-clause-prepared g c = (
  c.in-Some.sizes,
  1,
  c.in_ok-write_of.ensures.0,
  c.in_ok-write_of.ensures.1,
  c.in_ok-path.ensures.sized.0,
  c.in_ok-path.ensures.sized.1,
)

pub commit-seat-requires-2-clause-prepared : goal.commit-seat-requires-2-clause-prepared
commit-seat-requires-2-clause-prepared g c = (
  c.in-Some.sizes,
  2,
  c.in_ok-write_of-2.ensures.0,
  c.in_ok-write_of-2.ensures.1,
  c.in_ok-path.ensures.sized.0,
  c.in_ok-path.ensures.sized.1,
)

pub commit-seat-requires-3-clause-prepared : goal.commit-seat-requires-3-clause-prepared
commit-seat-requires-3-clause-prepared g c = (
  c.in-Some.sizes,
  3,
  c.in_ok-write_of-3.ensures.0,
  c.in_ok-write_of-3.ensures.1,
  c.in_ok-path.ensures.sized.0,
  c.in_ok-path.ensures.sized.1,
)
