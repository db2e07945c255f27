use Rattle.std.proofs.Common.{◌∙◌}
use Rattle.std.specs.Int.{w32, to_be_bytes}
use Rattle.clog_spec.proofs.Bytes.{number-IsBytes}
use Rattle.clog_entry.proofs.Checks.{goes_on}
use Rattle.clog_entry.proofs.check.body_check.Goals as goal

pub returns : goal.returns
returns c =
    c.crc32_more.ensures
    ∙ goes_on c.args.first (to_be_bytes w32 c.args.size) c.args.payload.now
    (number-IsBytes c.args.size) c.requires
