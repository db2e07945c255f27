use Rattle.std.proofs.Common.{ℕ, List, ◌∷◌, None, subst}
use Rattle.std.proofs.lemmas.Option.{none-some}
use Rattle.clog_crash.specs.Flush.{IsSameFolder}
use Rattle.clog_segments.specs.Beside.{StayButOne}
use Rattle.clog_segments.proofs.ComesFrom.{call_from, turned_from}
use Rattle.clog_segments.proofs.Recovered.{
  here_show,
  segment_shows,
  segment_settles,
  segment_stands,
}
use Rattle.clog_segments.proofs.Outcomes.{ok_both, one_call}
use Rattle.clog_segments.proofs.Stays.{stay_put}
use Rattle.clog_segments.proofs.recovering.take_recovered.Goals as goal

pub returns-clause-goes : goal.returns-clause-goes
returns-clause-goes g c first others may =
    let D = g.D.Disk in
    let before = c.args.disk.now in
    let after = c.remove.new.self in
    ok_both c.remove.result c.remove.ensures.puts c.remove.ensures.lasts (λ puts lasts.
    segment_settles first (D.leaves before) (D.leaves after) _ c.args.segment others
    c.segment_name.ensures c.remove.ensures.crash (D.files before) (D.files after) may puts lasts)

pub returns-clause-any_moment : goal.returns-clause-any_moment
returns-clause-any_moment g c first others may =
    let D = g.D.Disk in
    let before = c.args.disk.now in
    let after = c.remove.new.self in
    one_call D.moment D.since D.leaves D.read_at D.lasted_at before after (IsSameFolder first)
    (g.met.D.Disk.only_now before)
    (here_show first (D.files before) (D.leaves before) (c.args.segment ∷ others) may)
    c.remove.ensures.time
    (segment_shows first (D.leaves before) (D.leaves after) _ c.args.segment others
    c.segment_name.ensures c.remove.ensures.crash (D.files before) may)

pub returns-clause-files : goal.returns-clause-files
returns-clause-files g c first others may =
    let D = g.D.Disk in
    segment_stands first _ c.remove.result c.args.segment others c.segment_name.ensures
    (D.files c.args.disk.now) (D.files c.remove.new.self) c.remove.ensures.puts
    c.remove.ensures.maybe may

pub returns-clause-others : goal.returns-clause-others
returns-clause-others g c =
    let D = g.D.Disk in
    let before = c.args.disk.now in
    let after = c.remove.new.self in
    subst (λ (name : List ℕ). StayButOne name (D.files before) (D.files after))
    c.segment_name.ensures
    (stay_put c.segment_name.result None (D.files before) (D.files after) c.remove.result
    c.remove.ensures.puts c.remove.ensures.maybe)

pub returns-clause-from : goal.returns-clause-from
returns-clause-from g c first from =
    let D = g.D.Disk in
    let before = c.args.disk.now in
    let after = c.remove.new.self in
    call_from D.moment D.since D.leaves first D.read_at D.lasted_at before after
    (g.met.D.Disk.only_now before) c.remove.ensures.time from
    (turned_from first (D.leaves before) (D.leaves after) c.segment_name.result None
    c.remove.ensures.crash (λ b is. absurd (none-some b is)) from)
