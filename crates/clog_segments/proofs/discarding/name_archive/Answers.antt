use Rattle.std.proofs.Common.{ℕ, List, refl, subst}
use Rattle.clog_spec.specs.Names.{archive_name_of, segment_name_of}
use Rattle.clog_disk.specs.Files.{at_name}
use Rattle.clog_disk.specs.Images.{TurnsLike}
use Rattle.clog_segments.specs.AtMost.{IsArchiveOf}
use Rattle.clog_segments.specs.Beside.{ImagesButOne, StayButOne}
use Rattle.clog_disk.proofs.Moments.{started}
use Rattle.clog_segments.specs.Resting.{ShowsBehind}
use Rattle.clog_segments.proofs.AddsOnly.{adds_by, adds_none, linked_only, tables_but_archive}
use Rattle.clog_segments.proofs.AllGo.{all_rest, link_rests, link_shows, named_by}
use Rattle.clog_segments.proofs.Kept.{rests_show}
use Rattle.clog_segments.proofs.Outcomes.{ok_both, one_call}
use Rattle.clog_segments.proofs.Stays.{linked, stay_put, stay_same}
use Rattle.clog_segments.proofs.MayGo.{linked_stands}
use Rattle.clog_segments.proofs.NamesKept.{each_linked, each_same}
use Rattle.clog_segments.proofs.discarding.name_archive.Goals as goal

pub returns-then-archives-clause-changes : goal.returns-then-archives-clause-changes
returns-then-archives-clause-changes g c =
    let D = g.D.Disk in
    named_by c.args.archives c.args.id _ _ (D.changes c.args.disk.now) (D.changes c.link.new.self)
    c.link.result c.if-archives.true c.segment_name.ensures c.archive_name.ensures
    c.link.ensures.adds

pub returns-then-archives-clause-stays : goal.returns-then-archives-clause-stays
returns-then-archives-clause-stays g c r past last old kept base ordinals may =
    let D = g.D.Disk in
    let before = c.args.disk.now in
    let after = c.link.new.self in
    ok_both c.link.result c.link.ensures.puts c.link.ensures.lasts (λ puts lasts.
    link_rests (D.leaves before) (D.leaves after) r past last old kept base ordinals c.args.id
    c.requires.fits _ _ c.segment_name.ensures c.archive_name.ensures (D.files before)
    (D.files after) may c.requires.there c.link.ensures.crash puts lasts)

pub returns-then-archives-clause-any_moment : goal.returns-then-archives-clause-any_moment
returns-then-archives-clause-any_moment g c r past last old kept base ordinals may =
    let D = g.D.Disk in
    let before = c.args.disk.now in
    let after = c.link.new.self in
    one_call D.moment D.since D.leaves D.read_at D.lasted_at before after
    (ShowsBehind r past last old kept)
    (g.met.D.Disk.only_now before)
    (rests_show (D.files before) (D.leaves before) r past last old kept
    (all_rest (D.files before) (D.leaves before) r past last old kept base ordinals may))
    c.link.ensures.time
    (link_shows (D.leaves before) (D.leaves after) r past last old kept base ordinals c.args.id
    c.requires.fits _ _ c.segment_name.ensures c.archive_name.ensures (D.files before) may
    c.requires.there c.link.ensures.crash)

pub returns-clause-any_moment : goal.returns-clause-any_moment
returns-clause-any_moment g c r past last old kept base ordinals may =
    let D = g.D.Disk in
    let old_disk = c.args.disk.now in
    started D.moment D.since old_disk (ShowsBehind r past last old kept) (λ image left.
    rests_show (D.files old_disk) (D.leaves old_disk) r past last old kept
    (all_rest (D.files old_disk) (D.leaves old_disk) r past last old kept base ordinals may) image
    (g.met.D.Disk.only_now old_disk image left))

pub returns-then-archives-clause-others : goal.returns-then-archives-clause-others
returns-then-archives-clause-others g c =
    let D = g.D.Disk in
    let before = c.args.disk.now in
    let after = c.link.new.self in
    subst (λ (name : List ℕ). StayButOne name (D.files before) (D.files after))
    c.archive_name.ensures
    (stay_put c.archive_name.result (at_name (D.files before) c.segment_name.result)
    (D.files before) (D.files after) c.link.result c.link.ensures.puts c.link.ensures.maybe)

pub returns-clause-others : goal.returns-clause-others
returns-clause-others g c =
    let told = g.D.Disk.files c.args.disk.now in
    stay_same (archive_name_of c.args.id) told told refl

pub returns-then-archives-clause-elsewhere : goal.returns-then-archives-clause-elsewhere
returns-then-archives-clause-elsewhere g c =
    let D = g.D.Disk in
    let before = D.leaves c.args.disk.now in
    let after = D.leaves c.link.new.self in
    subst (λ (name : List ℕ). ImagesButOne name before after) c.archive_name.ensures
    (linked (D.files c.args.disk.now) before after c.segment_name.result c.archive_name.result
    c.link.ensures.crash)

pub returns-clause-elsewhere : goal.returns-clause-elsewhere
returns-clause-elsewhere g c name left apart is = is

pub returns-then-archives-clause-names_last : goal.returns-then-archives-clause-names_last
returns-then-archives-clause-names_last g c other =
    let D = g.D.Disk in
    let before = c.args.disk.now in
    let after = c.link.new.self in
    let is = c.link.ensures in
    each_linked (D.files before) (D.files after) (D.leaves before) (D.leaves after)
    c.segment_name.result c.archive_name.result c.link.result other is.puts is.lasts
    (linked (D.files before) (D.leaves before) (D.leaves after) c.segment_name.result
    c.archive_name.result is.crash) is.refused

pub returns-clause-names_last : goal.returns-clause-names_last
returns-clause-names_last g c other =
    let D = g.D.Disk in
    let disk = c.args.disk.now in
    each_same (D.files disk) (D.files disk) (D.leaves disk) (D.leaves disk) refl
    (λ name left is. is)

pub returns-then-archives-clause-stands : goal.returns-then-archives-clause-stands
returns-then-archives-clause-stands g c =
    let D = g.D.Disk in
    linked_stands (D.files c.args.disk.now) (D.files c.link.new.self) c.args.id
    c.segment_name.result c.archive_name.result c.segment_name.ensures c.archive_name.ensures
    c.link.result c.link.ensures.maybe

-- ---- what it adds to images

pub returns-then-archives-clause-adds_only : goal.returns-then-archives-clause-adds_only
returns-then-archives-clause-adds_only g c f is =
    let D = g.D.Disk in
    let before = c.args.disk.now in
    let after = c.link.new.self in
    let own = archive_name_of c.args.id in
    let from = segment_name_of 6 c.args.id in
    adds_by D.files D.moment D.since D.leaves D.read_at D.lasted_at before after
    (IsArchiveOf (D.leaves before) c.args.id) c.link.ensures.time
    (tables_but_archive (D.files before) (D.files after) c.args.id
    (subst (λ (name : List ℕ). StayButOne name (D.files before) (D.files after))
    c.archive_name.ensures
    (stay_put c.archive_name.result (at_name (D.files before) c.segment_name.result)
    (D.files before) (D.files after) c.link.result c.link.ensures.puts c.link.ensures.maybe)))
    (linked_only (D.files before) (D.leaves before) (D.leaves after) from own
    (subst (λ (name : List ℕ). TurnsLike (D.files before) (D.leaves before) (D.leaves after) name
    own) c.segment_name.ensures
    (subst (λ (name : List ℕ). TurnsLike (D.files before) (D.leaves before) (D.leaves after)
    c.segment_name.result name) c.archive_name.ensures c.link.ensures.crash))
    (g.met.D.Disk.reads_an_image before) f is)

pub returns-clause-adds_only : goal.returns-clause-adds_only
returns-clause-adds_only g c f is =
    let D = g.D.Disk in
    adds_none D.files D.moment D.since D.leaves c.args.disk.now
    (IsArchiveOf (D.leaves c.args.disk.now) c.args.id)
