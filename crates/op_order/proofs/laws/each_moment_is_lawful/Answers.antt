use Rattle.op_order.proofs.Windows.{lawful_at}
use Rattle.op_order.proofs.laws.each_moment_is_lawful.Goals as goal

pub returns : goal.returns
returns g c = λ places s R. lawful_at g.F.Fact.fits places s R
