use Rattle.std.proofs.Common.{length, eq-eqb}
use Rattle.std.specs.Str.Lossy.{utf8_valid_len}
use Rattle.std.proofs.lemmas.Str.{utf8_valid_len-IsUtf8}
use Rattle.clog_text.proofs.read.text_of.Goals as goal

pub returns-in-Ok : goal.returns-in-Ok
returns-in-Ok c =
    let bytes = c.args.bytes.now in (
      c.in-Ok.ensures.cases.0,
      eq-eqb (utf8_valid_len bytes) (length bytes)
          (utf8_valid_len-IsUtf8 bytes c.in-Ok.ensures.cases.1),
    )
