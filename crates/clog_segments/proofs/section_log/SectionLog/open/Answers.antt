use Rattle.std.proofs.Common.{ℕ, sym, subst}
use Rattle.clog_segments.specs.Opened.{RecoversAll}
use Rattle.clog_segments.proofs.Anywhere.{rests_wherever}
use Rattle.clog_segments.proofs.Ends.{end_opened, none_opened}
use Rattle.clog_segments.proofs.OpenedWhole.{lasted_now, rests_told}
use Rattle.clog_segments.proofs.section_log.SectionLog.open.Goals as goal

pub begin-requires : goal.begin-requires
begin-requires g c =
    let D = g.D.Disk in
    record {
      none = end_opened (D.files c.args.disk) (D.files c.recover.new.disk) c.args.moment
          c.in-Ok.base c.in-Ok.ensures.told c.in-Ok.ensures.opens c.in-Ok.ensures.fits;
      rests = rests_wherever (D.files c.args.disk) (D.files c.recover.new.disk)
          (D.leaves c.recover.new.disk) c.in-Ok.base c.in-Ok.ensures.told
          (none_opened (D.files c.args.disk) (D.files c.recover.new.disk) c.args.moment
          c.in-Ok.base c.in-Ok.ensures.opens)
          (rests_told (D.files c.args.disk) (D.files c.recover.new.disk)
          (D.leaves c.recover.new.disk) c.in-Ok.base c.in-Ok.ensures.told
          c.in-Ok.ensures.rests);
    }

pub returns-in-Ok-clause-lasted : goal.returns-in-Ok-clause-lasted
returns-in-Ok-clause-lasted g c first is =
    let D = g.D.Disk in
    let disk = c.recover.new.disk in
    let has = lasted_now (D.files disk) (D.leaves disk) (D.lasted_at disk (D.moment disk))
    (g.met.D.Disk.lasts_now disk) (c.in-Ok.ensures.lasts first is) in
    subst (λ d. D.lasted_at d c.begin.result.opened) (sym c.begin.ensures.disk)
    (subst (λ (t : ℕ). D.lasted_at disk t) (sym c.begin.ensures.opened) has)

pub returns-in-Ok-clause-lives : goal.returns-in-Ok-clause-lives
returns-in-Ok-clause-lives g c lasted =
    let D = g.D.Disk in
    let disk = c.recover.new.disk in
    c.begin.ensures.lives
    (subst (λ (t : ℕ). D.lasted_at disk t) c.begin.ensures.opened
    (subst (λ d. D.lasted_at d c.begin.result.opened) c.begin.ensures.disk lasted))

pub returns-in-Ok-clause-recovers : goal.returns-in-Ok-clause-recovers
returns-in-Ok-clause-recovers g c first is =
    let D = g.D.Disk in
    subst (λ d. RecoversAll first (D.changes c.args.disk) (D.changes d)) (sym c.begin.ensures.disk)
    (c.in-Ok.ensures.recovers first is)
