use Rattle.std.proofs.Common.{ℕ, sym, subst}
use Rattle.clog_segments.proofs.AtMost.{most_begun}
use Rattle.clog_segments.proofs.Begun.{begun}
use Rattle.clog_segments.proofs.section_log.SectionLog.begin.Goals as goal

pub invariant_of-result : goal.invariant_of-result
invariant_of-result g c =
    let D = g.D.Disk in (
      begun D.files D.moment D.since D.leaves D.read_at D.lasted_at c.args.disk
          c.of-first.result.value c.moment_count-opened.result c.args.id c.new.result.items
          c.new-2.result.items c.moment_count-opened.ensures c.of-first.ensures c.new.ensures.items
          c.new-2.ensures.items
          (g.met.D.Disk.reads_now c.args.disk) (g.met.D.Disk.only_now c.args.disk)
          (g.met.D.Disk.lasts_now c.args.disk) c.requires.none c.requires.rests,
      most_begun D.files D.moment D.since D.leaves c.args.disk c.of-first.result.value
          c.moment_count-opened.result c.args.id
          c.new.result.items c.new-2.result.items c.moment_count-opened.ensures c.of-first.ensures
          (g.met.D.Disk.only_now c.args.disk),
    )

pub returns-clause-lives : goal.returns-clause-lives
returns-clause-lives g c lasted =
    let D = g.D.Disk in
    let kept = begun D.files D.moment D.since D.leaves D.read_at D.lasted_at c.args.disk
    c.of-first.result.value c.moment_count-opened.result c.args.id c.new.result.items
    c.new-2.result.items c.moment_count-opened.ensures c.of-first.ensures c.new.ensures.items
    c.new-2.ensures.items
    (g.met.D.Disk.reads_now c.args.disk) (g.met.D.Disk.only_now c.args.disk)
    (g.met.D.Disk.lasts_now c.args.disk) c.requires.none c.requires.rests in
    kept.lives (subst (λ (t : ℕ). D.lasted_at c.args.disk t) (sym c.moment_count-opened.ensures)
    lasted)
