use Rattle.std.proofs.Common.{◌≡◌, length, bit_xor}
use Rattle.clog_spec.specs.Crc.{IsBytes, ones}
use Rattle.clog_spec.proofs.Divide.{register}
use Rattle.clog_base.proofs.crc.crc32_more.Given as goal

-- what is left to divide gives what the whole gives
abbrev pub invariant-loop-block : goal.invariant-loop-block
invariant-loop-block l = record {
  are_bytes : IsBytes l.rest;
  divided : register l.register l.rest ≡ register (bit_xor l.state ones) l.bytes;
}

abbrev pub decreases-loop-block : goal.decreases-loop-block
decreases-loop-block l = length l.rest
