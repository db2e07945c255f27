use Rattle.std.proofs.Common.{List, ℕ, subst, sym}
use Rattle.std.proofs.lemmas.List.{take_all}
use Rattle.clog_segments.specs.Named.{HasId, IsIdBase, OneHas}
use Rattle.clog_segments.proofs.Ids.{id_base_more, no_id_base, one_there}
use Rattle.clog_segments.proofs.naming.base_of_names.Goals as goal

pub loop-name-init : goal.loop-name-init
loop-name-init c = no_id_base HasId c.args.now

pub loop-name-preserved : goal.loop-name-preserved
loop-name-preserved c =
    id_base_more HasId c.args.names.now c.loop-name.name-index c.name-item.result c.args.now
    c.loop-name.base c.in-Ok.base c.loop-name-test.true c.name-item.is c.loop-name.invariant
    c.in-Ok.ensures

pub returns-in-Err : goal.returns-in-Err
returns-in-Err c =
    let h = c.in-Err.ensures in (
      h.0,
      (
        h.1.0,
        one_there HasId c.args.names.now c.name-item.result h.1.0
            (c.loop-name.name-index, c.loop-name-test.true, sym c.name-item.is) h.1.1,
        h.1.2,
      ),
    )

pub returns : goal.returns
returns c =
    subst (λ (l : List (List ℕ)). IsIdBase (OneHas HasId l) c.args.now c.loop-name.base)
    (take_all c.loop-name.name-index c.args.names.now c.loop-name-test.false)
    c.loop-name.invariant
