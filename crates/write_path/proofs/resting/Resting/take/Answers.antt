use Rattle.std.proofs.Common.{List, sym, ap, ◌∙◌}
use mathlib.Core.Option.{some-injective}
use mathlib.Core.Option as maybe
use lib.ListN.{get_elem?}
use Rattle.write_path.proofs.resting.Resting.take.Goals as goal

pub returns : goal.returns
returns g c = let f = c.close-closed.ensures.values.2 in
    let key = c.args.self.table.shared.key.value in
    some-injective c.take-value.result key (sym c.take-value.ensures.value
    ∙ f.4 0 key (ap (λ (l : List (maybe.Option g.row.T.Denot)). get_elem? l 0) f.1))
