use Rattle.std.proofs.Common.{arith, inl, inr, refl}
use Rattle.clog_crash.proofs.placing.entries_are_cut_where_a_marker_stands.Goals as goal

pub returns-clause-runs : goal.returns-clause-runs
returns-clause-runs c = (
  inl (refl, refl),
  omega arith,
  (omega arith, (omega arith, tt)),
  (
    inl (refl, refl),
    omega arith,
    (omega arith, tt),
    (inr (omega arith, refl), omega arith, (omega arith, tt), tt),
  ),
)

pub returns-clause-places : goal.returns-clause-places
returns-clause-places c = refl
