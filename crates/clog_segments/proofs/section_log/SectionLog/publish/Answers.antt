use Rattle.std.proofs.Common.{refl, subst}
use Rattle.clog_segments.specs.Life.{State}
use Rattle.clog_segments.specs.Publishes.{MayHaveCome, file_at}
use Rattle.clog_segments.proofs.Lived.{lives_still}
use Rattle.clog_segments.proofs.NamesKept.{names_beside, names_from, names_still, names_stopped}
use Rattle.clog_segments.proofs.PutBeside.{
  failed,
  failed_on,
  put,
  put_on,
  refused,
  refused_on,
}
use Rattle.clog_segments.proofs.SegmentsGo.{not_failed}
use Rattle.clog_segments.proofs.section_log.SectionLog.publish.Goals as goal

-- ---- what it keeps

pub invariant_of-self : goal.invariant_of-self
invariant_of-self g c =
    let is = c.publish_file.ensures in
    put c.self.view_is c.self.invariant c.if-self.false g.met.D.Disk.counts_now
    c.requires.numbered c.requires.may c.publish_file.new.disk is.told is.later is.any_moment
    c.requires.next is.others is.adds_only c.with_file-self-inside.result c.in-Ok.ensures.rests
    c.in-Ok.ensures.comes is.elsewhere
    (λ keeps. c.with_file-self-inside.ensures _ _ c.in-Ok.ensures.comes.bytes keeps
    c.in-Ok.ensures.comes.put)

pub invariant_of-self-in-Err-OutOfMemory : goal.invariant_of-self-in-Err-OutOfMemory
invariant_of-self-in-Err-OutOfMemory g c =
    let is = c.publish_file.ensures in
    let memory = c.in-Err-OutOfMemory.ensures in
    let other = not_failed _ refl c.in-Err-OutOfMemory.field-0-is in
    refused c.self.view_is c.self.invariant c.if-self.false g.met.D.Disk.counts_now
    c.requires.numbered c.requires.may c.publish_file.new.disk is.told is.later is.any_moment
    (memory.refused other) (memory.same other) is.time

pub invariant_of-self-in-Err-Failed : goal.invariant_of-self-in-Err-Failed
invariant_of-self-in-Err-Failed g c =
    let is = c.publish_file.ensures in
    failed c.self.view_is c.self.invariant c.if-self.false g.met.D.Disk.counts_now
    c.requires.numbered c.requires.may c.publish_file.new.disk is.told is.later is.any_moment
    c.requires.next is.others is.adds_only c.in-Err-Failed.ensures.maybe

-- ---- that it lives on

pub returns-then-self-clause-lives : goal.returns-then-self-clause-lives
returns-then-self-clause-lives g c lives =
    let D = g.D.Disk in
    lives_still D.files D.moment D.since D.leaves D.read_at D.lasted_at c.args.self.now
    (g.met.D.Disk.only_now c.args.self.now.disk) lives

pub returns-in-Ok-clause-lives : goal.returns-in-Ok-clause-lives
returns-in-Ok-clause-lives g c =
    let is = c.publish_file.ensures in
    put_on c.self.view_is c.self.invariant c.if-self.false g.met.D.Disk.counts_now
    c.requires.numbered c.requires.may c.publish_file.new.disk is.told is.later is.any_moment
    c.in-Ok.ensures.rests

pub returns-in-Err-OutOfMemory-clause-lives : goal.returns-in-Err-OutOfMemory-clause-lives
returns-in-Err-OutOfMemory-clause-lives g c =
    let is = c.publish_file.ensures in
    let memory = c.in-Err-OutOfMemory.ensures in
    let other = not_failed _ refl c.in-Err-OutOfMemory.field-0-is in
    refused_on c.self.view_is c.self.invariant c.if-self.false g.met.D.Disk.counts_now
    c.requires.numbered c.requires.may c.publish_file.new.disk is.told is.later is.any_moment
    (memory.refused other)

pub returns-in-Err-Failed-clause-lives : goal.returns-in-Err-Failed-clause-lives
returns-in-Err-Failed-clause-lives g c =
    let is = c.publish_file.ensures in
    failed_on c.self.view_is c.self.invariant c.if-self.false g.met.D.Disk.counts_now
    c.requires.numbered c.requires.may c.publish_file.new.disk is.told is.later is.any_moment

-- ---- which names last

pub returns-then-self-clause-names_last : goal.returns-then-self-clause-names_last
returns-then-self-clause-names_last g c = names_still g.D.Disk.files g.D.Disk.leaves c.args.self.now

pub returns-in-Ok-clause-names_last : goal.returns-in-Ok-clause-names_last
returns-in-Ok-clause-names_last g c =
    let D = g.D.Disk in
    names_from D.files D.leaves c.self.view_is
    (names_beside D.files D.leaves _ c.publish_file.new.disk _ refl
    c.publish_file.ensures.told (c.in-Ok.ensures.names_last (λ e. cc)))

pub returns-in-Err-OutOfMemory-clause-names_last : goal.returns-in-Err-OutOfMemory-clause-names_last
returns-in-Err-OutOfMemory-clause-names_last g c =
    let D = g.D.Disk in
    names_from D.files D.leaves c.self.view_is
    (names_beside D.files D.leaves _ c.publish_file.new.disk _ refl c.publish_file.ensures.told
    (c.in-Err-OutOfMemory.ensures.names_last
    (not_failed _ refl c.in-Err-OutOfMemory.field-0-is)))

pub returns-in-Err-Failed-clause-names_last : goal.returns-in-Err-Failed-clause-names_last
returns-in-Err-Failed-clause-names_last g c = names_stopped g.D.Disk.files g.D.Disk.leaves _ _ refl

-- ---- what may stand under its name

pub returns-in-Err-Failed-clause-maybe : goal.returns-in-Err-Failed-clause-maybe
returns-in-Err-Failed-clause-maybe g c =
    let D = g.D.Disk in
    subst (λ (st : State g.row.D.Denot). MayHaveCome (D.files st.disk)
    (D.files c.publish_file.new.disk)
    (file_at c.args.base c.args.file c.args.cells.now) c.args.sequence) c.self.view_is
    c.in-Err-Failed.ensures.maybe
