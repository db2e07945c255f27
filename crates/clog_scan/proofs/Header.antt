-- A header of which all bytes are there.
use Rattle.std.proofs.Common.{◌≡◌, ℕ, ◌+◌, ◌≤◌, List, length, drop, Some, Result, Ok, Err, ◌∙◌}
use Rattle.std.proofs.Common.{arith}
use Rattle.byteorder.specs.Endian.{big_number}
use Rattle.clog_spec.specs.Crc.{IsBytes}
use Rattle.clog_entry.specs.declared.cause.Cause.{Cause}
use Rattle.clog_entry.specs.Reading.{header_read}
use Rattle.clog_entry.proofs.HeaderLaws.{header_found}
use Rattle.clog_scan.specs.Ahead.{HeaderIs}
use Rattle.clog_scan.proofs.Theorems.{header_long}
use Rattle.clog_scan.proofs.WindowLaws.{header_same}

pub header_is : (len id : ℕ) (window : List ℕ) (size : ℕ) (read : Result Unit Cause)
    → IsBytes window → big_number 2 (drop 12 window) ≡ size → 18 + size ≤ length window
    → header_read window id ≡ read → HeaderIs len id window (Some read)
header_is len id window size (Ok done) bytes is enough read = (
  header_long window id (header_found window id bytes read),
  λ file ahead. header_same file window id ahead.ahead (omega (arith, is, enough)) ∙ read,
)
header_is len id window size (Err cause) bytes is enough read =
    λ file ahead. header_same file window id ahead.ahead (omega (arith, is, enough)) ∙ read
