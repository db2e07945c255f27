use Rattle.std.proofs.Common.{◌*◌, ◌∙◌, sym, ap, bit_xor}
use Rattle.clog_spec.specs.Crc.{divide, polynomial_of}
use Rattle.clog_spec.proofs.Divide.{register}
use Rattle.clog_base.proofs.CrcBlocks.{register-eight}
use Rattle.clog_base.proofs.crc.divide_block.Goals as goal

pub returns : goal.returns
unfolding register
returns c =
    rw (
      c.division_of.ensures,
      c.division_of-2.ensures,
      c.division_of-3.ensures,
      c.division_of-4.ensures,
      c.division_of-5.ensures,
      c.division_of-6.ensures,
      c.division_of-7.ensures,
      c.division_of-8.ensures,
      c.to_le_bytes.ensures,
    ) (sym (register-eight c.args.register c.args.block.now c.fits-block c.told-block
    c.ranges.register.fits) ∙ ap
    (λ n. divide (8 * n) (bit_xor c.args.register (polynomial_of c.args.block.now))) c.told-block)
