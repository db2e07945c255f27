use Rattle.std.proofs.Common.{◌∙◌, sym, arith, inl, inr}
use Rattle.clog_base.proofs.NameLaws.{table_says}
use Rattle.clog_base.proofs.parsed_name.parse_table_name.Goals as goal

pub returns-then-table-from : goal.returns-then-table-from
returns-then-table-from c table sequence said =
    let says = table_says c.args.name.now c.in-Some.middle.now c.in-Some-two_numbers_of.table
    c.in-Some-two_numbers_of.sequence c.in-Some-two_numbers_of.ensures.fit.0
    c.in-Some-two_numbers_of.ensures.fit.1
    (sym c.as_bytes.ensures.same ∙ c.in-Some.ensures) c.in-Some-two_numbers_of.ensures.read table
    sequence
    said in
    elim c.then-table-from.either [
      | inl above ↦ omega (arith, above, says.0, said.table_fits)
      | inr outside ↦ elim outside [
        | inl none ↦ omega (arith, none, says.1, said.sequence_starts)
        | inr above ↦ omega (arith, above, says.1, said.sequence_fits)
      ]
    ]
