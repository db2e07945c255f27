-- How much a run takes. Sizes are in bytes.
use Rattle.std.specs.Prelude.{ℕ}
use Rattle.clog_spec.specs.Sizes.{file_limit}

-- of a segment's file that is scanned
abbrev pub scan_limit : ℕ
scan_limit = file_limit
