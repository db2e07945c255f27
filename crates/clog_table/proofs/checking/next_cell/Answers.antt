use Rattle.std.proofs.Common.{length, refl, arith}
use Rattle.clog_table.specs.RawFields.{fields_of, pair_of}
use Rattle.clog_table.specs.LastCell.{last_of}
use Rattle.clog_table.proofs.AboveLast.{goes_on, stops}
use Rattle.clog_table.proofs.Grammar.{no_cell, cell_takes}
use Rattle.clog_table.proofs.checking.next_cell.Goals as goal

pub returns-in_default-clause-exact : goal.returns-in_default-clause-exact
returns-in_default-clause-exact c = λ table cells ordered ends. (
  refl,
  no_cell (length c.args.bytes.now) table c.args.bytes.now _ c.in_default.ensures,
)

pub returns-then-not-stands_above-clause-exact : goal.returns-then-not-stands_above-clause-exact
returns-then-not-stands_above-clause-exact c = λ table cells ordered ends.
    let fields = fields_of c.in-Ok.cell in
    let t = cell_takes (length c.args.bytes.now) table c.args.bytes.now c.in-Ok.rest.now fields
    (λ i. omega (arith, c.type_inv.bytes i)) c.in-Ok.ensures in (
      refl,
      record {
        next = pair_of table fields;
        behind = c.in-Ok.rest.now;
        found = record { stored = t.1; spelled = t.0 };
        disordered = λ order.
            let clash = c.if-not-stands_above.ensures.1
            (stops table cells (last_of c.args.last) fields ends order) in
            cc clash;
      },
    )

pub returns-clause-exact : goal.returns-clause-exact
returns-clause-exact c = λ table cells ordered ends.
    let fields = fields_of c.in-Ok.cell in
    let t = cell_takes (length c.args.bytes.now) table c.args.bytes.now c.in-Ok.rest.now fields
    (λ i. omega (arith, c.type_inv.bytes i)) c.in-Ok.ensures in
    record {
      next = pair_of table fields;
      found = record { stored = t.1; spelled = t.0 };
      joined = refl;
      ordered = goes_on table cells (last_of c.args.last) fields ordered ends
          (c.if-not-stands_above.ensures.0 refl);
    }
