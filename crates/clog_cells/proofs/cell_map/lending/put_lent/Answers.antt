use Rattle.std.proofs.Common.{refl, sym, subst}
use Rattle.std.specs.Prelude.{IsSome}
use Rattle.clog_base.proofs.Follows.{on_err, on_ok}
use Rattle.clog_cells.specs.Lent.{cell_lent}
use Rattle.clog_cells.proofs.Renewed.{renewed, same}
use Rattle.clog_cells.proofs.cell_map.lending.put_lent.Goals as goal

pub returns-in-Some-clause-merged : goal.returns-in-Some-clause-merged
returns-in-Some-clause-merged c =
    let cells = c.args.cells.now in
    let found = c.renew.new.found in
    let writes = c.get_mut.follows.holds found in
    let there = sym c.in-Some.ensures.value in
    on_ok c.renew.result _ _ c.renew.ensures.renewed (λ is.
    renewed cells.entries (c.get_mut.follows.lender found).entries c.args.key.now
    (cell_lent c.args.cell) c.in-Some.found.now c.requires.ordered there found is
    writes.4 writes.0 (writes.3 (subst IsSome c.in-Some.ensures.value refl)).0)

pub returns-in-Some-clause-unchanged : goal.returns-in-Some-clause-unchanged
returns-in-Some-clause-unchanged c =
    let cells = c.args.cells.now in
    let found = c.renew.new.found in
    let writes = c.get_mut.follows.holds found in
    on_err c.renew.result _ _ c.renew.ensures.unchanged (λ is.
    same cells.entries (c.get_mut.follows.lender found).entries c.args.key.now
    (cell_lent c.args.cell) c.in-Some.found.now c.requires.ordered (sym c.in-Some.ensures.value)
    found is writes.0)
