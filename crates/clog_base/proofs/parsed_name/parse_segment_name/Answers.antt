use Rattle.std.proofs.Common.{◌∙◌, sym, arith, inl, inr}
use Rattle.clog_base.proofs.NameLaws.{segment_says}
use Rattle.clog_base.proofs.parsed_name.parse_segment_name.Goals as goal

pub returns-then-version-gt-GREATEST_VERSION : goal.returns-then-version-gt-GREATEST_VERSION
returns-then-version-gt-GREATEST_VERSION c version id said =
    let says = segment_says c.args.name.now c.in-Some.middle.now c.in-Some-two_numbers_of.version
    c.in-Some-two_numbers_of.id c.in-Some-two_numbers_of.ensures.fit.0
    c.in-Some-two_numbers_of.ensures.fit.1
    (sym c.as_bytes.ensures.same ∙ c.in-Some.ensures) c.in-Some-two_numbers_of.ensures.read
    version id said in
    elim c.then-version-gt-GREATEST_VERSION.either [
      | inl above ↦ omega (arith, above, says.0, said.version_fits)
      | inr above ↦ omega (arith, above, says.1, said.id_fits)
    ]
