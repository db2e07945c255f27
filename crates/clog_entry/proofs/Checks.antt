-- Checks of several numbers, one behind another.
use Rattle.std.proofs.Common.{◌≡◌, ℕ, List, ◌++◌, ap, ◌∙◌}
use Rattle.clog_spec.specs.Crc.{IsBytes, crc32_of, crc32_after}
use Rattle.clog_spec.proofs.Divide.{crc32_of-continues}
pub use Rattle.clog_spec.proofs.Bytes.{number-IsBytes, append-IsBytes}

-- a check goes on by one piece
pub goes_on : (state : ℕ) (front piece : List ℕ) → IsBytes front → state ≡ crc32_of front
    → crc32_after state piece ≡ crc32_of (front ++ piece)
goes_on state front piece fits is =
    ap (λ s. crc32_after s piece) is ∙ crc32_of-continues front piece fits
