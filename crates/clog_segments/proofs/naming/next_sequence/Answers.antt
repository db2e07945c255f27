use Rattle.std.proofs.Common.{List, ℕ, subst}
use Rattle.std.proofs.lemmas.List.{take_all}
use Rattle.clog_crash.specs.Folder.{IsBase}
use Rattle.clog_segments.specs.Named.{HasSequence, OneHas}
use Rattle.clog_segments.proofs.Ids.{base_more, next_fits, no_base}
use Rattle.clog_segments.proofs.naming.next_sequence.Goals as goal

pub loop-name-init : goal.loop-name-init
loop-name-init c = no_base (HasSequence c.args.table) 1

pub loop-name-preserved : goal.loop-name-preserved
loop-name-preserved c =
    base_more (HasSequence c.args.table) c.args.names.now c.loop-name.name-index
    c.name-item.result 1 c.loop-name.next c.above_sequence-next.result c.loop-name-test.true
    c.name-item.is c.loop-name.invariant c.above_sequence-next.ensures

pub returns-clause-next : goal.returns-clause-next
returns-clause-next c =
    subst (λ (l : List (List ℕ)). IsBase (OneHas (HasSequence c.args.table) l) 1 c.loop-name.next)
    (take_all c.loop-name.name-index c.args.names.now c.loop-name-test.false)
    c.loop-name.invariant

pub returns-clause-starts : goal.returns-clause-starts
returns-clause-starts c = c.loop-name.invariant.moment

pub returns-clause-fits : goal.returns-clause-fits
returns-clause-fits c few =
    next_fits c.args.names.now c.args.table c.loop-name.next
    (subst (λ (l : List (List ℕ)). IsBase (OneHas (HasSequence c.args.table) l) 1 c.loop-name.next)
    (take_all c.loop-name.name-index c.args.names.now c.loop-name-test.false)
    c.loop-name.invariant) few
