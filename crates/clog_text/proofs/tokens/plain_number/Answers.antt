use Rattle.std.proofs.Common.{◌≡◌, false, Option, Some, IfSome, ◌==◌, get_or, sym, subst, ap}
use Rattle.std.proofs.Common.{◌∙◌}
use Rattle.fast_float.specs.Text.{scan}
use Rattle.serde_json.specs.Data.{Num, unsigned as as_unsigned}
use Rattle.serde_json.specs.Read.{number_of, number_from}
use Rattle.clog_text.proofs.tokens.plain_number.Goals as goal

pub returns : goal.returns
unfolding number_of
returns c =
    let s = c.as_bytes-bytes.result.now in
    let no_sign : (get_or s 0 0 == 45) ≡ false = sym c.if-has_minus.ensures in
    let read : number_from false (scan s) ≡ number_of s = rw no_sign in
    subst (λ (r : Option Num). IfSome c.unsigned.result (λ n. r ≡ Some (as_unsigned n)))
    (ap (number_from false) c.scan.ensures.parts ∙ read
    ∙ ap number_of c.as_bytes-bytes.ensures.value)
    c.unsigned.ensures
