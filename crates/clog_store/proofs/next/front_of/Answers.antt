use Rattle.clog_store.proofs.Fronts.{first_made}
use Rattle.clog_store.proofs.next.front_of.Goals as goal

pub returns-then-size-eq0 : goal.returns-then-size-eq0
returns-then-size-eq0 c =
    first_made (λ front. front.items) c.args.id c.args.size c.args.long c.first_front.result
    c.if-size-eq0.true c.first_front.ensures
