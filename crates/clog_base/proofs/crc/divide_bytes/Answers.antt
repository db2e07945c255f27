use Rattle.std.proofs.Common.{◌<◌, get_or, ◌∙◌, sym, arith}
use Rattle.clog_spec.proofs.Divide.{register, register_more, register_all}
use Rattle.clog_base.proofs.crc.divide_bytes.Goals as goal

pub loop-byte-preserved : goal.loop-byte-preserved
loop-byte-preserved c =
    let fits : get_or c.args.bytes.now c.loop-byte.byte-index 0 < 256 = omega (
      arith,
      c.type_inv.bytes c.loop-byte.byte-index,
    ) in
    rw (c.division_of.ensures, c.from.ensures)
    (register_more c.loop-byte.left c.args.bytes.now c.loop-byte.byte-index
    c.loop-byte-test.true fits ∙ c.loop-byte.invariant)

pub returns : goal.returns
unfolding register
returns c =
    sym (register_all c.loop-byte.left c.args.bytes.now c.loop-byte.byte-index
    c.loop-byte-test.false) ∙ c.loop-byte.invariant
