use Rattle.std.proofs.Common.{◌+◌, ◌++◌, List, ℕ, length, subst}
use Rattle.clog_base.proofs.Follows.{on_err, on_ok}
use Rattle.clog_spec.specs.Names.{segment_name_of}
use Rattle.clog_disk.specs.Images.{Tears}
use Rattle.clog_segments.specs.AtMost.{IsUpToAt}
use Rattle.clog_segments.specs.Beside.{ImagesButOne, StayButOne}
use Rattle.clog_segments.specs.Resting.{ShowsBehind}
use Rattle.clog_segments.proofs.AddsOnly.{adds_by, tables_but_segment, torn_up_to}
use Rattle.clog_segments.proofs.Kept.{rests_show, rests_show_more, rests_on, torn_show, rests_kept}
use Rattle.clog_segments.proofs.Outcomes.{one_call}
use Rattle.clog_segments.proofs.Stays.{stay_appended}
use Rattle.clog_segments.proofs.NamesKept.{torn_elsewhere}
use Rattle.clog_segments.proofs.sections.keep_sections.Goals as goal

pub returns-clause-kept : goal.returns-clause-kept
returns-clause-kept g c r past old kept new brings rests =
    let D = g.D.Disk in
    let before = c.args.disk.now in
    let after = c.append_at.new.self in
    on_ok c.append_at.result _ _ c.append_at.ensures.appends (λ appends.
    rests_kept (D.leaves before) (D.leaves after) r past c.args.id old kept _
    c.segment_name.ensures new c.args.bytes.now brings (D.files before) (D.files after) rests
    c.append_at.ensures.crash appends)

pub returns-clause-refused : goal.returns-clause-refused
returns-clause-refused g c other r past at old kept rests =
    let D = g.D.Disk in
    let before = c.args.disk.now in
    let after = c.append_at.new.self in
    on_err c.append_at.result _ _ (c.append_at.ensures.refused other) (λ unchanged.
    let now = rests_on (D.files before) (D.files after) (D.leaves before) (D.leaves after) r past
    at old kept unchanged.files unchanged.images.fewer rests in (
      now,
      one_call D.moment D.since D.leaves D.read_at D.lasted_at before after
          (ShowsBehind r past at old kept)
          (g.met.D.Disk.only_now before)
          (rests_show (D.files before) (D.leaves before) r past at old kept rests)
          c.append_at.ensures.time
          (rests_show (D.files after) (D.leaves after) r past at old kept now),
    ))

pub returns-clause-any_moment : goal.returns-clause-any_moment
returns-clause-any_moment g c r past old kept new brings rests =
    let D = g.D.Disk in
    let before = c.args.disk.now in
    let after = c.append_at.new.self in
    one_call D.moment D.since D.leaves D.read_at D.lasted_at before after
    (ShowsBehind r past c.args.id old (kept ++ new)) (g.met.D.Disk.only_now before)
    (rests_show_more (D.files before) (D.leaves before) r past c.args.id old kept new rests)
    c.append_at.ensures.time
    (torn_show (D.leaves before) (D.leaves after) r past c.args.id old kept _
    c.segment_name.ensures new c.args.bytes.now brings (D.files before) rests
    c.append_at.ensures.crash)

pub returns-clause-others : goal.returns-clause-others
returns-clause-others g c =
    let D = g.D.Disk in
    let before = c.args.disk.now in
    let after = c.append_at.new.self in
    subst (λ (name : List ℕ). StayButOne name (D.files before) (D.files after))
    c.segment_name.ensures
    (stay_appended c.segment_name.result c.args.bytes.now (length c.args.bytes.now)
    (D.files before) (D.files after) c.append_at.result c.append_at.ensures.appends
    c.append_at.ensures.maybe)

pub returns-clause-elsewhere : goal.returns-clause-elsewhere
returns-clause-elsewhere g c f is =
    let D = g.D.Disk in
    let before = c.args.disk.now in
    let after = c.append_at.new.self in
    subst (λ (name : List ℕ). ImagesButOne name (D.leaves before) (D.leaves after))
    c.segment_name.ensures
    (torn_elsewhere (D.files before) (D.leaves before) (D.leaves after) c.segment_name.result
    (length c.args.bytes.now) c.append_at.ensures.crash f is)

pub returns-clause-adds_only : goal.returns-clause-adds_only
returns-clause-adds_only g c f is =
    let D = g.D.Disk in
    let before = c.args.disk.now in
    let after = c.append_at.new.self in
    let own = segment_name_of 6 c.args.id in
    let n = length c.args.bytes.now in
    adds_by D.files D.moment D.since D.leaves D.read_at D.lasted_at before after
    (IsUpToAt own (c.args.size + n)) c.append_at.ensures.time
    (tables_but_segment (D.files before) (D.files after) c.args.id
    (subst (λ (name : List ℕ). StayButOne name (D.files before) (D.files after))
    c.segment_name.ensures
    (stay_appended c.segment_name.result c.args.bytes.now n (D.files before) (D.files after)
    c.append_at.result c.append_at.ensures.appends c.append_at.ensures.maybe)))
    (torn_up_to (D.files before) (D.leaves before) (D.leaves after) own n c.args.size
    (subst (λ (name : List ℕ). Tears (D.files before) (D.leaves before) (D.leaves after) name n)
    c.segment_name.ensures c.append_at.ensures.crash) c.requires.end f is)
