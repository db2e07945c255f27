use Rattle.std.proofs.Common.{◌<◌, refl, arith}
use Rattle.path_machine.proofs.steps.Asked.{touched_below}
use Rattle.path_machine.proofs.seat_asks.are_places_of.Goals as goal

pub returns : goal.returns
returns c =
    let fits : c.args.tables < 65536 = c.ranges.tables.fits in (
      (λ _. record {
        tables = c.args.tables;
        deposited = c.requires;
        one_each = c.if-places-tables.false;
        each = λ t touched. c.loop-table.invariant t
            (let below = touched_below c.args.tables t fits touched in omega arith) touched;
      }),
      (λ _. refl),
    )
