use Rattle.std.proofs.Common.{Option, sym, ap, subst, ◌∙◌}
use Rattle.std.specs.Prelude.{IsTrue, ◌↔◌}
use Rattle.std.specs.Ordering.{is_lt}
use Rattle.clog_table.specs.declared.raw_cell.RawCell.{RawCell}
use Rattle.clog_table.specs.RawFields.{fields_of}
use Rattle.clog_table.specs.LastCell.{last_of, fields_cmp, StandsAbove}
use Rattle.clog_table.proofs.Keys.{is_lt-Less}
use Rattle.clog_table.proofs.checking.stands_above.Goals as goal

pub returns-in-Some : goal.returns-in-Some
returns-in-Some c =
    let cell = fields_of c.args.cell in
    subst (λ (last : Option RawCell). IsTrue c.is_below.result ↔ StandsAbove (last_of last) cell)
    (sym c.in-Some.is) (
      λ yes. is_lt-Less (fields_cmp (fields_of c.in-Some.last) cell)
          (sym c.is_below.ensures ∙ yes),
      λ above. c.is_below.ensures ∙ ap is_lt above,
    )
