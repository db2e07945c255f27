use Rattle.std.proofs.Common.{arith}
use Rattle.write_path.proofs.laws.what_a_round_reaches.Goals as goal

pub returns-clause-marker : goal.returns-clause-marker
returns-clause-marker c = omega arith

pub returns-clause-older : goal.returns-clause-older
returns-clause-older c = λ r. absurd (omega (arith, r))

pub returns-clause-front : goal.returns-clause-front
returns-clause-front c = omega arith

pub returns-clause-empty : goal.returns-clause-empty
returns-clause-empty c = λ r. absurd (omega (arith, r))
