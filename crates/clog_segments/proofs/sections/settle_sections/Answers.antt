use Rattle.std.proofs.Common.{ℕ, List, subst}
use Rattle.clog_base.proofs.Follows.{on_err, on_ok}
use Rattle.clog_disk.specs.Images.{Lasts}
use Rattle.clog_segments.specs.Resting.{ShowsBehind}
use Rattle.clog_segments.proofs.Kept.{rests_show, rests_on, rests_settled}
use Rattle.clog_segments.proofs.Outcomes.{one_call}
use Rattle.clog_segments.proofs.sections.settle_sections.Goals as goal

pub returns-clause-lasts : goal.returns-clause-lasts
returns-clause-lasts g c r past old kept rests =
    let D = g.D.Disk in
    let before = c.args.disk.now in
    let after = c.sync.new.self in
    on_ok c.sync.result _ _ c.sync.ensures.lasts (λ lasts.
    rests_settled (D.leaves before) (D.leaves after) r past c.args.id old kept _
    c.segment_name.ensures (D.files before) (D.files after) c.sync.ensures.same
    c.sync.ensures.crash rests lasts)

pub returns-clause-refused : goal.returns-clause-refused
returns-clause-refused g c r past old kept rests =
    let D = g.D.Disk in
    let before = c.args.disk.now in
    let after = c.sync.new.self in
    on_err c.sync.result _ _ c.sync.ensures.refused (λ images.
    rests_on (D.files before) (D.files after) (D.leaves before) (D.leaves after) r past c.args.id
    old kept c.sync.ensures.same images.fewer rests)

pub returns-clause-any_moment : goal.returns-clause-any_moment
returns-clause-any_moment g c r past old kept rests =
    let D = g.D.Disk in
    let before = c.args.disk.now in
    let after = c.sync.new.self in
    one_call D.moment D.since D.leaves D.read_at D.lasted_at before after
    (ShowsBehind r past c.args.id old kept) (g.met.D.Disk.only_now before)
    (rests_show (D.files before) (D.leaves before) r past c.args.id old kept rests)
    c.sync.ensures.time
    (rests_show (D.files after) (D.leaves after) r past c.args.id old kept
    (rests_on (D.files before) (D.files after) (D.leaves before) (D.leaves after) r past c.args.id
    old kept c.sync.ensures.same c.sync.ensures.crash rests))

pub returns-clause-here : goal.returns-clause-here
returns-clause-here g c =
    let D = g.D.Disk in
    let before = c.args.disk.now in
    let after = c.sync.new.self in
    on_ok c.sync.result _ _ c.sync.ensures.lasts (λ lasts.
    subst (λ (name : List ℕ). Lasts (D.files before) (D.leaves after) name)
    c.segment_name.ensures lasts)
