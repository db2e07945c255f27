-- Headers and markers of ids whose two halves are not 0, computed.
use Rattle.std.proofs.Common.{◌≡◌, ◌^◌, ◌-◌, [], ◌∷◌, refl}
use Rattle.clog_spec.specs.Crc.{crc32_after, crc32_of, divide, divide_once}
use Rattle.clog_spec.specs.Segment.{header_bytes, marker_bytes}

pub real_header :
    header_bytes 1700000000000
    ≡ 0x00 ∷ 0x00 ∷ 0x00 ∷ 0x06 ∷ 0x00 ∷ 0x00 ∷ 0x01 ∷ 0x8b ∷ 0xcf ∷ 0xe5 ∷ 0x68 ∷ 0x00 ∷ 0x00
    ∷ 0x02 ∷ 0x7b ∷ 0x7d ∷ 0xeb ∷ 0x17 ∷ 0x26 ∷ 0xb2 ∷ []
unfolding crc32_of crc32_after divide divide_once
real_header = refl

pub real_marker :
    marker_bytes 1700000000000 20 60
    ≡ 0x00 ∷ 0x00 ∷ 0x00 ∷ 0x3c ∷ 0xda ∷ 0x07 ∷ 0x4c ∷ 0x34 ∷ []
unfolding crc32_of crc32_after divide divide_once
real_marker = refl

pub greatest_header :
    header_bytes (2 ^ 63 - 1)
    ≡ 0x00 ∷ 0x00 ∷ 0x00 ∷ 0x06 ∷ 0x7f ∷ 0xff ∷ 0xff ∷ 0xff ∷ 0xff ∷ 0xff ∷ 0xff ∷ 0xff ∷ 0x00
    ∷ 0x02 ∷ 0x7b ∷ 0x7d ∷ 0x70 ∷ 0x2e ∷ 0x7a ∷ 0xdd ∷ []
unfolding crc32_of crc32_after divide divide_once
greatest_header = refl

pub greatest_marker :
    marker_bytes (2 ^ 63 - 1) 20 60
    ≡ 0x00 ∷ 0x00 ∷ 0x00 ∷ 0x3c ∷ 0x2c ∷ 0xc3 ∷ 0x8e ∷ 0xce ∷ []
unfolding crc32_of crc32_after divide divide_once
greatest_marker = refl
