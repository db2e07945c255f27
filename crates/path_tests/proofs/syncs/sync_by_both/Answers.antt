use Rattle.path_tests.proofs.syncs.sync_by_both.Goals as goal

pub write-one-requires-clause-prepared : goal.write-one-requires-clause-prepared
write-one-requires-clause-prepared g c = (
  c.in-Some.sizes,
  2,
  c.in_ok-second.ensures.0,
  c.in_ok-second.ensures.1,
  c.in_ok-path.ensures.sized.0,
  c.in_ok-path.ensures.sized.1,
)
