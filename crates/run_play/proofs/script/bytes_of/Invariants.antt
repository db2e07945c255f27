use Rattle.std.proofs.Common.{length}
use Rattle.run_play.proofs.script.bytes_of.Given as goal

-- what is left to read
abbrev pub decreases-loop-pair : goal.decreases-loop-pair
decreases-loop-pair l = length l.rest
