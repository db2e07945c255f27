use Rattle.std.proofs.Common.{bit_xor, ◌∙◌, sym, ap, arith, refl}
use Rattle.std.proofs.lemmas.Nat.{xor_comm}
use Rattle.clog_spec.specs.Crc.{ones}
use Rattle.clog_spec.proofs.Divide.{register, crc32_after_is}
use Rattle.clog_base.proofs.CrcBlocks.{register-block, bytes_behind}
use Rattle.clog_base.proofs.crc.crc32_more.Goals as goal

pub loop-block-init : goal.loop-block-init
loop-block-init c = record {
  are_bytes = λ i. omega (arith, c.type_inv.bytes i);
  divided = refl;
}

pub loop-block-preserved : goal.loop-block-preserved
loop-block-preserved c = record {
  are_bytes = bytes_behind 8 c.loop-block.rest.now c.in-Some.behind.now
      c.in-Some.ensures.cases.1 c.loop-block.invariant.are_bytes;
  divided = ap (λ x. register x c.in-Some.behind.now) c.divide_block-register.ensures
      ∙ register-block c.loop-block.register c.in-Some.block.now c.in-Some.behind.now
      c.loop-block.rest.now c.loop-block.invariant.are_bytes c.in-Some.ensures.cases.0
      c.in-Some.ensures.cases.1 (c.in-Some.ensures.variant.0 refl)
      ∙ c.loop-block.invariant.divided;
}

pub returns : goal.returns
unfolding register
returns c =
    xor_comm c.divide_bytes.result ones
    ∙ ap (bit_xor ones) (c.divide_bytes.ensures ∙ c.loop-block.invariant.divided
    ∙ ap (λ x. register x c.args.bytes.now) (xor_comm c.args.state ones))
    ∙ sym (crc32_after_is c.args.state c.args.bytes.now)
