use Rattle.clog_segments.proofs.Rolls.{skipped, skipped_on}
use Rattle.clog_segments.proofs.section_log.SectionLog.skip.Goals as goal

pub returns-clause-lives : goal.returns-clause-lives
returns-clause-lives g c =
    skipped_on c.self.view_is c.self.invariant g.met.D.Disk.only_now g.met.D.Disk.counts_now
    c.requires.runs c.args.id c.requires.above c.requires.fits
    c.requires.none

pub invariant_of-self : goal.invariant_of-self
invariant_of-self g c =
    skipped c.self.view_is c.self.invariant g.met.D.Disk.only_now g.met.D.Disk.counts_now
    c.requires.runs c.args.id c.requires.above c.requires.fits
    c.requires.none
