use Rattle.std.proofs.Common.{subst}
use Rattle.clog_segments.specs.Numbering.{KeepsSequences}
use Rattle.clog_segments.proofs.Numbering.{keeps_come}
use Rattle.clog_segments.proofs.sequences.with_file.Goals as goal

pub returns-in-Some : goal.returns-in-Some
returns-in-Some c told now bytes keeps puts =
    keeps_come told now c.in-Some.known c.raised.result c.args.table c.args.sequence bytes
    c.requires.table c.requires.starts c.requires.fits c.raised.ensures
    (subst (KeepsSequences told) c.in-Some.is keeps) puts
