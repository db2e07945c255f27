use Rattle.std.proofs.Common.{◌∙◌, ◌+◌, sym, subst}
use Rattle.std.proofs.lemmas.List.{take_rest}
use Rattle.clog_base.proofs.Readings.{no_pair-dash, no_pair-first, no_pair-second, is_pair}
use Rattle.clog_base.specs.NameReading.{IsNoNumber}
use Rattle.clog_base.proofs.name_reading.two_numbers_of.Goals as goal

pub returns-in_default-clause-read : goal.returns-in_default-clause-read
returns-in_default-clause-read c = no_pair-dash c.args.bytes.now (sym c.in_default.ensures)

pub returns-in_default-number_of-clause-read : goal.returns-in_default-number_of-clause-read
returns-in_default-number_of-clause-read c =
    no_pair-first c.args.bytes.now c.in-Some.at (sym c.in-Some.ensures)
    c.in_default-number_of.ensures

pub returns-in_default-number_of-2-clause-read : goal.returns-in_default-number_of-2-clause-read
returns-in_default-number_of-2-clause-read c =
    no_pair-second c.args.bytes.now c.in-Some.at (sym c.in-Some.ensures)
    (subst IsNoNumber (take_rest c.args.bytes.now (c.in-Some.at + 1))
    c.in_default-number_of-2.ensures)

pub returns-clause-read : goal.returns-clause-read
returns-clause-read c =
    is_pair c.args.bytes.now c.in-Some.at c.in-Some-number_of.first c.in-Some-number_of-2.second
    (sym c.in-Some.ensures) c.in-Some-number_of.ensures
    (sym (take_rest c.args.bytes.now (c.in-Some.at + 1)) ∙ c.in-Some-number_of-2.ensures)
