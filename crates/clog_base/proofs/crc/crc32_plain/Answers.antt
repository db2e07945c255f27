use Rattle.std.proofs.Common.{bit_xor, ◌∙◌, sym, ap}
use Rattle.std.proofs.lemmas.Nat.{xor_comm}
use Rattle.clog_spec.specs.Crc.{ones}
use Rattle.clog_spec.proofs.Divide.{register, crc32_after_is}
use Rattle.clog_base.proofs.crc.crc32_plain.Goals as goal

pub returns : goal.returns
unfolding register
returns c =
    xor_comm c.divide_bytes.result ones
    ∙ ap (bit_xor ones) (c.divide_bytes.ensures
    ∙ ap (λ x. register x c.args.bytes.now) (xor_comm c.args.state ones))
    ∙ sym (crc32_after_is c.args.state c.args.bytes.now)
