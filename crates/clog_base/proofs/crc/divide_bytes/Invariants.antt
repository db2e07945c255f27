use Rattle.std.proofs.Common.{◌≡◌, drop}
use Rattle.clog_spec.proofs.Divide.{register}
use Rattle.clog_base.proofs.crc.divide_bytes.Given as goal

-- what is left to divide gives what the whole gives
abbrev pub invariant-loop-byte : goal.invariant-loop-byte
invariant-loop-byte l = register l.left (drop l.byte-index l.bytes)
    ≡ register l.register l.bytes
