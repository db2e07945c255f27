use Rattle.std.proofs.Common.{ℕ, List, None, subst}
use Rattle.clog_base.proofs.Follows.{on_err}
use Rattle.clog_segments.specs.Beside.{ImagesButOne, StayButOne}
use Rattle.clog_segments.specs.Resting.{ShowsBehind}
use Rattle.clog_segments.proofs.Beside.{goes_show, rests_without, rests_for_none}
use Rattle.clog_segments.proofs.Kept.{rests_show, rests_on}
use Rattle.clog_segments.proofs.Outcomes.{ok_both, one_call}
use Rattle.clog_segments.proofs.Stays.{stay_put, turned}
use Rattle.clog_segments.proofs.NamesKept.{each_by}
use Rattle.clog_segments.proofs.changing.take_away.Goals as goal

pub returns-clause-goes : goal.returns-clause-goes
returns-clause-goes g c r past id old kept may =
    let D = g.D.Disk in
    let before = c.args.disk.now in
    let after = c.remove.new.self in
    ok_both c.remove.result c.remove.ensures.puts c.remove.ensures.lasts (λ puts lasts.
    rests_without (D.leaves before) (D.leaves after) r past id old kept _ c.args.segment
    c.segment_name.ensures c.remove.ensures.crash (D.files before) (D.files after) may puts lasts)

pub returns-clause-refused : goal.returns-clause-refused
returns-clause-refused g c other r past id old kept rests =
    let D = g.D.Disk in
    let before = c.args.disk.now in
    let after = c.remove.new.self in
    on_err c.remove.result _ _ (c.remove.ensures.refused other) (λ unchanged.
    rests_on (D.files before) (D.files after) (D.leaves before) (D.leaves after) r past id old kept
    unchanged.files unchanged.images.fewer rests)

pub returns-clause-any_moment : goal.returns-clause-any_moment
returns-clause-any_moment g c r past id old kept may =
    let D = g.D.Disk in
    let before = c.args.disk.now in
    let after = c.remove.new.self in
    one_call D.moment D.since D.leaves D.read_at D.lasted_at before after
    (ShowsBehind r past id old kept)
    (g.met.D.Disk.only_now before)
    (rests_show (D.files before) (D.leaves before) r past id old kept
    (rests_for_none (D.files before) (D.leaves before) r past id old kept c.args.segment may))
    c.remove.ensures.time
    (goes_show (D.leaves before) (D.leaves after) r past id old kept _ c.args.segment
    c.segment_name.ensures c.remove.ensures.crash (D.files before) may)

pub returns-clause-others : goal.returns-clause-others
returns-clause-others g c =
    let D = g.D.Disk in
    let before = c.args.disk.now in
    let after = c.remove.new.self in
    subst (λ (name : List ℕ). StayButOne name (D.files before) (D.files after))
    c.segment_name.ensures
    (stay_put c.segment_name.result None (D.files before) (D.files after) c.remove.result
    c.remove.ensures.puts c.remove.ensures.maybe)

pub returns-clause-elsewhere : goal.returns-clause-elsewhere
returns-clause-elsewhere g c =
    let D = g.D.Disk in
    let before = D.leaves c.args.disk.now in
    let after = D.leaves c.remove.new.self in
    subst (λ (name : List ℕ). ImagesButOne name before after) c.segment_name.ensures
    (turned c.segment_name.result None before after c.remove.ensures.crash)

pub returns-clause-names_last : goal.returns-clause-names_last
returns-clause-names_last g c other =
    let D = g.D.Disk in
    let before = c.args.disk.now in
    let after = c.remove.new.self in
    let is = c.remove.ensures in
    each_by (D.files before) (D.files after) (D.leaves before) (D.leaves after)
    c.segment_name.result None c.remove.result other is.puts is.lasts
    (turned c.segment_name.result None (D.leaves before) (D.leaves after) is.crash) is.refused
