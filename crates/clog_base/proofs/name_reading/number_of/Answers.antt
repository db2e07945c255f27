use Rattle.std.proofs.Common.{◌≡◌, ◌∙◌, Ok, true, false, decimal, ap, sym, subst}
use Rattle.std.specs.Result.{result_unwrap_or}
use Rattle.std.specs.Str.{IsUtf8}
use Rattle.std.proofs.lemmas.Str.{IsUtf8-from_ascii}
use Rattle.std.proofs.lemmas.Fmt.{IsAscii-decimal, parse-decimal}
use Rattle.clog_base.proofs.name_reading.number_of.Goals as goal

pub returns-in_default : goal.returns-in_default
returns-in_default c n fits is =
    c.in_default.ensures.cases.0
    (subst IsUtf8 (sym is) (IsUtf8-from_ascii _ (IsAscii-decimal n fits)))

pub returns-in_default-parse : goal.returns-in_default-parse
returns-in_default-parse c n fits is =
    c.in_default-parse.not-Ok n
    (parse-decimal 64 n c.in-Ok.text.now c.parse.result fits fits
    (c.in-Ok.ensures.cases.0 ∙ is) c.parse.ensures.value.0)

pub returns-else-is_written : goal.returns-else-is_written
returns-else-is_written c n fits is =
    let read : Ok c.in-Ok-parse.number ≡ Ok n =
    sym c.in-Ok-parse.is
    ∙ parse-decimal 64 n c.in-Ok.text.now c.parse.result fits fits
    (c.in-Ok.ensures.cases.0 ∙ is) c.parse.ensures.value.0 in
    let same : c.in-Ok-parse.number ≡ n = ap (λ r. result_unwrap_or r 0) read in
    let no : false ≡ true = c.if-is_written.ensures.1 (is ∙ ap decimal (sym same)) in cc
