use Rattle.path_tests.proofs.refusing.commit_sync_commit.Goals as goal

pub commit-seat-requires-clause-prepared : goal.commit-seat-requires-clause-prepared
commit-seat-requires-clause-prepared g c = (
  c.in-Some.sizes,
  1,
  c.in_ok-one.ensures.0,
  c.in_ok-one.ensures.1,
  c.in_ok-path.ensures.sized.0,
  c.in_ok-path.ensures.sized.1,
)

pub commit-seat-requires-2-clause-prepared : goal.commit-seat-requires-2-clause-prepared
commit-seat-requires-2-clause-prepared g c = (
  c.in-Some.sizes,
  2,
  c.in_ok-two.ensures.0,
  c.in_ok-two.ensures.1,
  c.in_ok-path.ensures.sized.0,
  c.in_ok-path.ensures.sized.1,
)
