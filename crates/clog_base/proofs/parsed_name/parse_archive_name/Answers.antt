use Rattle.std.proofs.Common.{◌≡◌, ◌∙◌, sym, arith}
use Rattle.std.proofs.lemmas.Fmt.{decimal_injective}
use Rattle.clog_base.proofs.NameLaws.{archive_says}
use Rattle.clog_base.proofs.parsed_name.parse_archive_name.Goals as goal

pub returns-in_default : goal.returns-in_default
returns-in_default c id said = c.in_default.ensures _ (c.as_bytes.ensures.same ∙ said.form)

pub returns-in_default-number_of : goal.returns-in_default-number_of
returns-in_default-number_of c id said =
    c.in_default-number_of.ensures id (omega (arith, said.id_fits))
    (archive_says c.args.name.now c.in-Some.middle.now
    (sym c.as_bytes.ensures.same ∙ c.in-Some.ensures) id said)

pub returns-then-id-gt-GREATEST_ID : goal.returns-then-id-gt-GREATEST_ID
returns-then-id-gt-GREATEST_ID c id said =
    let same : c.in-Some-number_of.id ≡ id =
    decimal_injective c.in-Some-number_of.id id (omega arith) (omega (arith, said.id_fits))
    (sym c.in-Some-number_of.ensures
    ∙ archive_says c.args.name.now c.in-Some.middle.now
    (sym c.as_bytes.ensures.same ∙ c.in-Some.ensures) id said) in
    omega (arith, same, said.id_fits, c.if-id-gt-GREATEST_ID.true)
