use Rattle.clog_spec.specs.Crc.{crc32_of}
use Rattle.clog_base.proofs.crc.crc32.Goals as goal

pub returns : goal.returns
unfolding crc32_of
returns c = c.crc32_more.ensures
