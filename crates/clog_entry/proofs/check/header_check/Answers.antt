use Rattle.std.proofs.Common.{◌++◌, ap, ◌∙◌, length}
use Rattle.std.specs.Int.{w32, to_be_bytes}
use Rattle.clog_spec.specs.Crc.{crc32_after}
use Rattle.clog_spec.specs.Segment.{low_half, high_half}
use Rattle.clog_spec.proofs.Bytes.{number-IsBytes, append-IsBytes}
use Rattle.clog_entry.proofs.Checks.{goes_on}
use Rattle.clog_entry.proofs.check.header_check.Goals as goal

pub returns : goal.returns
returns c =
    let version = to_be_bytes w32 c.args.version in
    let low = to_be_bytes w32 (low_half c.args.id) in
    let high = to_be_bytes w32 (high_half c.args.id) in
    let size = to_be_bytes w32 (length c.args.parameters.now) in
    let one_fits = number-IsBytes c.args.version in
    let two_fit = append-IsBytes version low one_fits (number-IsBytes (low_half c.args.id)) in
    let three_fit =
    append-IsBytes (version ++ low) high two_fit (number-IsBytes (high_half c.args.id)) in
    let four_fit =
    append-IsBytes (version ++ low ++ high) size three_fit
    (number-IsBytes (length c.args.parameters.now)) in
    let second =
    c.crc32_int-check.ensures
    ∙ ap (λ n. crc32_after c.number_check-check.result (to_be_bytes w32 n))
    c.halves-low.ensures.low
    ∙ goes_on c.number_check-check.result version low one_fits c.number_check-check.ensures in
    let third =
    c.crc32_int-check-2.ensures
    ∙ ap (λ n. crc32_after c.crc32_int-check.result (to_be_bytes w32 n)) c.halves-low.ensures.high
    ∙ goes_on c.crc32_int-check.result (version ++ low) high two_fit second in
    let fourth =
    c.crc32_int-check-3.ensures
    ∙ goes_on c.crc32_int-check-2.result (version ++ low ++ high) size three_fit third in
    c.crc32_more.ensures
    ∙ goes_on c.crc32_int-check-3.result (version ++ low ++ high ++ size) c.args.parameters.now
    four_fit fourth
