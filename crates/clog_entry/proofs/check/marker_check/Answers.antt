use Rattle.std.proofs.Common.{◌≡◌, ◌++◌, ap, ◌∙◌}
use Rattle.std.specs.Int.{w32, to_be_bytes}
use Rattle.clog_spec.specs.Crc.{crc32_of, crc32_after}
use Rattle.clog_spec.specs.Segment.{low_half, high_half}
use Rattle.clog_spec.proofs.Bytes.{number-IsBytes, append-IsBytes}
use Rattle.clog_entry.proofs.Checks.{goes_on}
use Rattle.clog_entry.proofs.check.marker_check.Goals as goal

pub returns : goal.returns
returns c =
    let low = to_be_bytes w32 (low_half c.args.id) in
    let high = to_be_bytes w32 (high_half c.args.id) in
    let low_fits = number-IsBytes (low_half c.args.id) in
    let first : c.number_check-check.result ≡ crc32_of low =
    c.number_check-check.ensures ∙ ap (λ n. crc32_of (to_be_bytes w32 n)) c.halves-low.ensures.low
    in
    let second =
    c.crc32_int-check.ensures
    ∙ ap (λ n. crc32_after c.number_check-check.result (to_be_bytes w32 n))
    c.halves-low.ensures.high
    ∙ goes_on c.number_check-check.result low high low_fits first in
    c.crc32_int.ensures
    ∙ goes_on c.crc32_int-check.result (low ++ high) (to_be_bytes w32 c.args.at)
    (append-IsBytes low high low_fits (number-IsBytes (high_half c.args.id))) second
