use Rattle.std.proofs.Common.{Err, refl}
use Rattle.clog_segments.proofs.Lived.{lives_still}
use Rattle.clog_segments.proofs.SegmentsGo.{
  all_on,
  all_went,
  first_on,
  first_went,
  not_failed,
  some_on,
  some_went,
}
use Rattle.clog_segments.proofs.NamesKept.{names_beside, names_from, names_still, names_stopped}
use Rattle.clog_segments.proofs.section_log.SectionLog.discard.Goals as goal

-- ---- what it keeps

pub invariant_of-self : goal.invariant_of-self
invariant_of-self g c =
    let is = c.drop_segments.ensures in
    all_went c.self.view_is c.self.invariant c.if-self.false g.met.D.Disk.counts_now
    c.drop_segments.new.disk is.told is.later c.args.archives c.args.base c.args.ordinals.now
    c.requires.covered is.any_moment is.elsewhere is.adds_only
    c.in-Ok.ensures.goes c.in-Ok.ensures.files

pub invariant_of-self-in-OutOfMemory : goal.invariant_of-self-in-OutOfMemory
invariant_of-self-in-OutOfMemory g c =
    let is = c.drop_segments.ensures in
    let other = not_failed (Err c.in-Err.halt.fault) refl c.in-OutOfMemory.is in
    first_went c.self.view_is c.self.invariant c.if-self.false g.met.D.Disk.counts_now
    c.drop_segments.new.disk is.told is.later c.args.archives c.args.base c.args.ordinals.now
    c.requires.covered is.any_moment is.elsewhere is.adds_only
    c.in-Err.halt.dropped c.in-Err.halt.is_named (c.in-Err.ensures.refused other)
    (c.in-Err.ensures.left other)

pub invariant_of-self-in-Failed : goal.invariant_of-self-in-Failed
invariant_of-self-in-Failed g c =
    let is = c.drop_segments.ensures in
    let others = c.in-Err.ensures.others in
    some_went c.self.view_is c.self.invariant c.if-self.false g.met.D.Disk.counts_now
    c.drop_segments.new.disk is.told is.later c.args.archives c.args.base c.args.ordinals.now
    c.requires.covered is.any_moment is.elsewhere is.adds_only
    c.in-Err.halt.dropped c.in-Err.halt.is_named others.0 c.in-Err.ensures.changes.0 others.1
    others.2

-- ---- that it lives on

pub returns-then-self-clause-lives : goal.returns-then-self-clause-lives
returns-then-self-clause-lives g c lives =
    let D = g.D.Disk in
    lives_still D.files D.moment D.since D.leaves D.read_at D.lasted_at c.args.self.now
    (g.met.D.Disk.only_now c.args.self.now.disk) lives

pub returns-in-Ok-clause-lives : goal.returns-in-Ok-clause-lives
returns-in-Ok-clause-lives g c =
    let is = c.drop_segments.ensures in
    all_on c.self.view_is c.self.invariant c.if-self.false g.met.D.Disk.counts_now
    c.drop_segments.new.disk is.told is.later c.args.archives c.args.base c.args.ordinals.now
    c.requires.covered is.any_moment is.elsewhere is.adds_only
    c.in-Ok.ensures.goes

pub returns-in-OutOfMemory-clause-lives : goal.returns-in-OutOfMemory-clause-lives
returns-in-OutOfMemory-clause-lives g c =
    let is = c.drop_segments.ensures in
    first_on c.self.view_is c.self.invariant c.if-self.false g.met.D.Disk.counts_now
    c.drop_segments.new.disk is.told is.later c.args.archives c.args.base c.args.ordinals.now
    c.requires.covered is.any_moment is.elsewhere is.adds_only
    c.in-Err.halt.dropped
    (c.in-Err.ensures.refused (not_failed (Err c.in-Err.halt.fault) refl c.in-OutOfMemory.is))

pub returns-in-Failed-clause-lives : goal.returns-in-Failed-clause-lives
returns-in-Failed-clause-lives g c =
    let is = c.drop_segments.ensures in
    some_on c.self.view_is c.self.invariant c.if-self.false g.met.D.Disk.counts_now
    c.drop_segments.new.disk is.told is.later c.args.archives c.args.base c.args.ordinals.now
    c.requires.covered is.any_moment is.elsewhere is.adds_only

-- ---- which names last

pub returns-then-self-clause-names_last : goal.returns-then-self-clause-names_last
returns-then-self-clause-names_last g c = names_still g.D.Disk.files g.D.Disk.leaves c.args.self.now

pub returns-in-Ok-clause-names_last : goal.returns-in-Ok-clause-names_last
returns-in-Ok-clause-names_last g c =
    let D = g.D.Disk in
    names_from D.files D.leaves c.self.view_is
    (names_beside D.files D.leaves _ c.drop_segments.new.disk _ refl
    c.drop_segments.ensures.told (c.in-Ok.ensures.names_last (λ e. cc)))

pub returns-in-OutOfMemory-clause-names_last : goal.returns-in-OutOfMemory-clause-names_last
returns-in-OutOfMemory-clause-names_last g c =
    let D = g.D.Disk in
    names_from D.files D.leaves c.self.view_is
    (names_beside D.files D.leaves _ c.drop_segments.new.disk _ refl c.drop_segments.ensures.told
    (c.in-Err.ensures.names_last (not_failed (Err c.in-Err.halt.fault) refl c.in-OutOfMemory.is)))

pub returns-in-Failed-clause-names_last : goal.returns-in-Failed-clause-names_last
returns-in-Failed-clause-names_last g c = names_stopped g.D.Disk.files g.D.Disk.leaves _ _ refl
