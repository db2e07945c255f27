use Rattle.std.proofs.Common.{◌∙◌, ap}
use Rattle.clog_segments.proofs.Rolls.{left, left_on}
use Rattle.clog_segments.proofs.section_log.SectionLog.leave.Goals as goal

pub returns-clause-lives : goal.returns-clause-lives
returns-clause-lives g c =
    let taken = c.replace-sections.ensures in
    left_on c.self.view_is c.self.invariant g.met.D.Disk.only_now g.met.D.Disk.counts_now
    c.requires.runs c.args.id c.requires.above c.requires.fits
    c.push_reserved.ensures.items c.reserve.ensures.items (ap (λ v. v.items) taken.value)
    (ap (λ v. v.items) taken.after ∙ c.new.ensures.items) c.requires.some c.requires.all

pub invariant_of-self-2 : goal.invariant_of-self-2
invariant_of-self-2 g c =
    let taken = c.replace-sections.ensures in
    left c.self.view_is c.self.invariant g.met.D.Disk.only_now g.met.D.Disk.counts_now
    c.requires.runs c.args.id c.requires.above c.requires.fits
    c.push_reserved.ensures.items c.reserve.ensures.items (ap (λ v. v.items) taken.value)
    (ap (λ v. v.items) taken.after ∙ c.new.ensures.items) c.requires.some c.requires.all
