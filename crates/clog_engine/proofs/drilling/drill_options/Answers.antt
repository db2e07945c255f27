use Rattle.std.proofs.Common.{◌≡◌, arith, lit≤}
use Rattle.clog_engine.proofs.drilling.drill_options.Goals as goal

pub returns-clause-doable : goal.returns-clause-doable
returns-clause-doable c = record {
  some_writer = lit≤ tt;
  few_writers = lit≤ tt;
  least = lit≤ tt;
  most = lit≤ tt;
  some_updates = λ count is. let same : 1000 ≡ count = cc in omega (arith, same);
  few_updates = λ count is. let same : 1000 ≡ count = cc in omega (arith, same);
}
