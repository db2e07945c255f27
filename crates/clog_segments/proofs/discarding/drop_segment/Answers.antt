use Rattle.std.proofs.Common.{◌≡◌, ◌∷◌, ◌+◌, Option, Some, None, inl, inr, refl, subst}
use Rattle.clog_spec.specs.Names.{archive_name_of, segment_name_of}
use Rattle.clog_disk.specs.Files.{Files}
use Rattle.clog_disk.proofs.Moments.{goes_on_by}
use Rattle.clog_segments.specs.AtMost.{IsArchiveOf}
use Rattle.clog_segments.specs.Beside.{MayBeGoing, StandsAs, StayButOne}
use Rattle.clog_segments.specs.Resting.{ShowsBehind}
use Rattle.clog_segments.proofs.AddsOnly.{adds_by, adds_then, tables_but_segment, turned_only}
use Rattle.clog_segments.proofs.AllGo.{
  all_rest_on,
  not_missing,
  one_goes,
  others_go,
  still_there,
}
use Rattle.clog_segments.proofs.MayGo.{removed_stands}
use Rattle.clog_segments.proofs.Stays.{unnamed}
use Rattle.clog_segments.proofs.NamesKept.{each_then}
use Rattle.clog_segments.proofs.discarding.drop_segment.Goals as goal
use Rattle.std.specs.declared.result.Result.TheVariants.{Err}

pub returns-in-Ok-clause-goes : goal.returns-in-Ok-clause-goes
returns-in-Ok-clause-goes g c r past last old kept others may =
    let D = g.D.Disk in
    let o = c.args.ordinal in
    let mid = c.name_archive.new.disk in
    let after = c.take_away.new.disk in
    let still = c.in_default.ensures.stays r past last old kept c.args.base (o ∷ others) may in
    others_go (D.files mid) (D.files after) (D.leaves mid) (D.leaves after) r past last old kept
    c.args.base o others still c.in-Ok.ensures.puts
    (c.in-Ok.ensures.goes r past last old kept
    (one_goes (D.files mid) (D.leaves mid) r past last old kept c.args.base o others still))

pub returns-in-Ok-clause-any_moment : goal.returns-in-Ok-clause-any_moment
returns-in-Ok-clause-any_moment g c r past last old kept others may =
    let D = g.D.Disk in
    let o = c.args.ordinal in
    let mid = c.name_archive.new.disk in
    let still = c.in_default.ensures.stays r past last old kept c.args.base (o ∷ others) may in
    goes_on_by D.moment D.since c.args.disk.now mid c.take_away.new.disk
    (ShowsBehind r past last old kept)
    (c.name_archive.ensures.any_moment r past last old kept c.args.base (o ∷ others) may)
    (c.take_away.ensures.any_moment r past last old kept
    (one_goes (D.files mid) (D.leaves mid) r past last old kept c.args.base o others still))

pub returns-in-Err-take_away-clause-found : goal.returns-in-Err-take_away-clause-found
returns-in-Err-take_away-clause-found g c =
    let D = g.D.Disk in
    let id = c.args.base + c.args.ordinal in
    not_missing (D.files c.name_archive.new.disk) (segment_name_of 6 id)
    (Err c.in-Err-take_away.fault) c.in-Err-take_away.ensures.finds
    (still_there (D.files c.args.disk.now) (D.files c.name_archive.new.disk) c.args.archives id
    c.requires.fits c.in_default.ensures.files c.requires.there)

pub returns-in-Err-take_away-clause-refused : goal.returns-in-Err-take_away-clause-refused
returns-in-Err-take_away-clause-refused g c other r past last old kept others may =
    let D = g.D.Disk in
    let o = c.args.ordinal in
    let mid = c.name_archive.new.disk in
    let after = c.take_away.new.disk in
    let still = c.in_default.ensures.stays r past last old kept c.args.base (o ∷ others) may in
    let same = c.in-Err-take_away.ensures.same other in
    all_rest_on (D.leaves mid) (D.leaves after) r past last old kept c.args.base (o ∷ others)
    (D.files mid) (D.files after) same.files same.images.fewer still

pub returns-in-Err-take_away-clause-any_moment : goal.returns-in-Err-take_away-clause-any_moment
returns-in-Err-take_away-clause-any_moment g c r past last old kept others may =
    let D = g.D.Disk in
    let o = c.args.ordinal in
    let mid = c.name_archive.new.disk in
    let still = c.in_default.ensures.stays r past last old kept c.args.base (o ∷ others) may in
    goes_on_by D.moment D.since c.args.disk.now mid c.take_away.new.disk
    (ShowsBehind r past last old kept)
    (c.name_archive.ensures.any_moment r past last old kept c.args.base (o ∷ others) may)
    (c.take_away.ensures.any_moment r past last old kept
    (one_goes (D.files mid) (D.leaves mid) r past last old kept c.args.base o others still))

-- ---- all but one name

pub returns-in-Err-clause-others : goal.returns-in-Err-clause-others
returns-in-Err-clause-others g c =
    let D = g.D.Disk in
    let id = c.args.base + c.args.ordinal in
    let told = D.files c.args.disk.now in
    let now = D.files c.name_archive.new.disk in (
      archive_name_of id,
      inr (c.in-Err.ensures.linked, refl),
      subst (λ (o : Option Files). StayButOne (archive_name_of id) o now) (unnamed id told)
          c.name_archive.ensures.others,
      subst (λ (o : Option Files). StandsAs (archive_name_of id)
          (MayBeGoing id (archive_name_of id)) o now) (unnamed id told) c.in-Err.ensures.stands,
    )

pub returns-in-Err-take_away-clause-others : goal.returns-in-Err-take_away-clause-others
returns-in-Err-take_away-clause-others g c =
    let D = g.D.Disk in
    let id = c.args.base + c.args.ordinal in
    let now = D.files c.take_away.new.disk in (
      segment_name_of 6 id,
      inl refl,
      subst (λ (o : Option Files). StayButOne (segment_name_of 6 id) o now)
          c.in_default.ensures.files c.take_away.ensures.others,
      subst (λ (o : Option Files). StandsAs (segment_name_of 6 id)
          (MayBeGoing id (segment_name_of 6 id)) o now) c.in_default.ensures.files
          (removed_stands (D.files c.name_archive.new.disk) now id
          c.in-Err-take_away.ensures.maybe),
    )

-- ---- what a crash may leave of the other names

pub returns-in-Err-clause-elsewhere : goal.returns-in-Err-clause-elsewhere
returns-in-Err-clause-elsewhere g c name left apart is =
    c.name_archive.ensures.elsewhere name left (λ own. apart (inr own)) is

pub returns-in-Ok-clause-elsewhere : goal.returns-in-Ok-clause-elsewhere
returns-in-Ok-clause-elsewhere g c name left apart is =
    c.name_archive.ensures.elsewhere name left (λ own. apart (inr own))
    (c.take_away.ensures.elsewhere name left (λ own. apart (inl own)) is)

pub returns-in-Err-take_away-clause-elsewhere : goal.returns-in-Err-take_away-clause-elsewhere
returns-in-Err-take_away-clause-elsewhere g c name left apart is =
    c.name_archive.ensures.elsewhere name left (λ own. apart (inr own))
    (c.take_away.ensures.elsewhere name left (λ own. apart (inl own)) is)

-- ---- which names last

pub returns-in-Err-clause-names_last : goal.returns-in-Err-clause-names_last
returns-in-Err-clause-names_last g c other = c.in-Err.ensures.names_last other

pub returns-in-Ok-clause-names_last : goal.returns-in-Ok-clause-names_last
returns-in-Ok-clause-names_last g c other =
    let D = g.D.Disk in
    let before = c.args.disk.now in
    let mid = c.name_archive.new.disk in
    let after = c.take_away.new.disk in
    each_then (D.files before) (D.files mid) (D.files after) (D.leaves before) (D.leaves mid)
    (D.leaves after) c.take_away.ensures.told (c.in_default.ensures.names_last (λ e. cc))
    (c.in-Ok.ensures.names_last (λ e. cc))

pub returns-in-Err-take_away-clause-names_last : goal.returns-in-Err-take_away-clause-names_last
returns-in-Err-take_away-clause-names_last g c other =
    let D = g.D.Disk in
    let before = c.args.disk.now in
    let mid = c.name_archive.new.disk in
    let after = c.take_away.new.disk in
    each_then (D.files before) (D.files mid) (D.files after) (D.leaves before) (D.leaves mid)
    (D.leaves after) c.take_away.ensures.told (c.in_default.ensures.names_last (λ e. cc))
    (c.in-Err-take_away.ensures.names_last other)

-- ---- what they add to images

pub returns-in-Ok-clause-adds_only : goal.returns-in-Ok-clause-adds_only
returns-in-Ok-clause-adds_only g c f is =
    let D = g.D.Disk in
    let before = c.args.disk.now in
    let mid = c.name_archive.new.disk in
    let after = c.take_away.new.disk in
    let id = c.args.base + c.args.ordinal in
    let own = segment_name_of 6 id in
    let Archive = IsArchiveOf (D.leaves before) id in
    let away = c.take_away.ensures in
    adds_then D.files D.moment D.since D.leaves before mid after Archive away.told
    c.name_archive.ensures.later.no_sooner (c.name_archive.ensures.adds_only f is)
    (adds_by D.files D.moment D.since D.leaves D.read_at D.lasted_at mid after Archive away.time
    (tables_but_segment (D.files mid) (D.files after) id away.others)
    (turned_only (D.leaves mid) (D.leaves after) own None Archive away.crash
    (λ bytes same. let no : None ≡ Some bytes = same in cc)))

pub returns-in-Err-take_away-clause-adds_only : goal.returns-in-Err-take_away-clause-adds_only
returns-in-Err-take_away-clause-adds_only g c f is =
    let D = g.D.Disk in
    let before = c.args.disk.now in
    let mid = c.name_archive.new.disk in
    let after = c.take_away.new.disk in
    let id = c.args.base + c.args.ordinal in
    let own = segment_name_of 6 id in
    let Archive = IsArchiveOf (D.leaves before) id in
    let away = c.take_away.ensures in
    adds_then D.files D.moment D.since D.leaves before mid after Archive away.told
    c.name_archive.ensures.later.no_sooner (c.name_archive.ensures.adds_only f is)
    (adds_by D.files D.moment D.since D.leaves D.read_at D.lasted_at mid after Archive away.time
    (tables_but_segment (D.files mid) (D.files after) id away.others)
    (turned_only (D.leaves mid) (D.leaves after) own None Archive away.crash
    (λ bytes same. let no : None ≡ Some bytes = same in cc)))
