use Rattle.std.proofs.Common.{[], ◌∷◌, length, refl, ap, arith, length-append}
use Rattle.clog_spec.specs.Names.{segment_name_of}
use Rattle.clog_segments.specs.Life.{State}
use Rattle.clog_segments.proofs.KeepsSection.{
  failed,
  failed_on,
  is_kept,
  kept_on,
  refused,
  refused_on,
  unkept_on,
}
use Rattle.clog_segments.proofs.Lived.{lives_still}
use Rattle.clog_segments.proofs.SegmentsGo.{not_failed}
use Rattle.clog_segments.proofs.Stays.{stay_same}
use Rattle.clog_disk.proofs.Telling.{same_told_self}
use Rattle.clog_segments.proofs.NamesKept.{
  each_same,
  names_beside,
  names_from,
  names_kept,
  names_still,
  names_stopped,
}
use Rattle.clog_segments.proofs.section_log.SectionLog.keep.Goals as goal

-- the disk is not called

pub returns-then-self-clause-lives : goal.returns-then-self-clause-lives
returns-then-self-clause-lives g c lives =
    let D = g.D.Disk in
    lives_still D.files D.moment D.since D.leaves D.read_at D.lasted_at c.args.self.now
    (g.met.D.Disk.only_now c.args.self.now.disk) lives

pub returns-then-self-clause-others : goal.returns-then-self-clause-others
returns-then-self-clause-others g c =
    let s = c.args.self.now in
    stay_same (segment_name_of 6 s.id) (g.D.Disk.files s.disk) (g.D.Disk.files s.disk) refl

pub returns-in_err-push-clause-others : goal.returns-in_err-push-clause-others
returns-in_err-push-clause-others g c =
    let files = g.D.Disk.files in
    let s = c.args.self.now in
    stay_same (segment_name_of 6 s.id) (files s.disk) (files c.self.inside.disk)
    (ap (λ (st : State g.row.D.Denot). files st.disk) c.self.view_is)

pub returns-in_err-push-clause-lives : goal.returns-in_err-push-clause-lives
returns-in_err-push-clause-lives g c =
    unkept_on c.self.view_is c.in_err-push.ensures.items g.met.D.Disk.only_now

-- ---- that it lives on

pub returns-in-Ok-clause-lives : goal.returns-in-Ok-clause-lives
returns-in-Ok-clause-lives g c =
    let is = c.keep_sections.ensures in
    kept_on c.self.view_is c.self.invariant c.if-self.false g.met.D.Disk.counts_now
    c.keep_sections.new.disk c.args.section c.in_ok-push.ensures.items c.args.bytes.now
    c.requires.brings is.told is.later is.any_moment
    c.in-Ok.ensures.kept

pub returns-in-Err-OutOfMemory-clause-lives : goal.returns-in-Err-OutOfMemory-clause-lives
returns-in-Err-OutOfMemory-clause-lives g c =
    let is = c.keep_sections.ensures in
    let memory = c.in-Err-OutOfMemory.ensures in
    let other = not_failed _ refl c.in-Err-OutOfMemory.field-0-is in
    refused_on c.self.view_is c.self.invariant c.if-self.false g.met.D.Disk.counts_now
    c.keep_sections.new.disk
    (c.take_back.ensures c.self.inside.sections.items c.args.section c.in_ok-push.ensures.items)
    (memory.same other) (memory.images other).fewer is.time (memory.refused other)

pub returns-in-Err-Failed-clause-lives : goal.returns-in-Err-Failed-clause-lives
returns-in-Err-Failed-clause-lives g c =
    let is = c.keep_sections.ensures in
    failed_on c.self.view_is c.self.invariant c.if-self.false g.met.D.Disk.counts_now
    c.keep_sections.new.disk c.args.section c.in_ok-push.ensures.items c.args.bytes.now
    c.requires.brings is.told is.later is.any_moment

-- ---- what it keeps

pub invariant_of-self-in-Ok : goal.invariant_of-self-in-Ok
invariant_of-self-in-Ok g c =
    let is = c.keep_sections.ensures in
    is_kept c.self.view_is c.self.invariant c.if-self.false g.met.D.Disk.counts_now
    c.keep_sections.new.disk c.args.section c.in_ok-push.ensures.items c.args.bytes.now
    c.requires.brings is.told is.later is.any_moment
    is.adds_only c.in-Ok.ensures.kept c.in-Ok.ensures.appends is.others

pub invariant_of-self-in-Err-OutOfMemory : goal.invariant_of-self-in-Err-OutOfMemory
invariant_of-self-in-Err-OutOfMemory g c =
    let is = c.keep_sections.ensures in
    let memory = c.in-Err-OutOfMemory.ensures in
    let other = not_failed _ refl c.in-Err-OutOfMemory.field-0-is in
    refused c.self.view_is c.self.invariant c.if-self.false g.met.D.Disk.counts_now
    c.keep_sections.new.disk
    (c.take_back.ensures c.self.inside.sections.items c.args.section c.in_ok-push.ensures.items)
    (memory.same other) (memory.images other).fewer is.time (memory.refused other)

pub invariant_of-self-in-Err-Failed : goal.invariant_of-self-in-Err-Failed
invariant_of-self-in-Err-Failed g c =
    let is = c.keep_sections.ensures in
    failed c.self.view_is c.self.invariant c.if-self.false g.met.D.Disk.counts_now
    c.keep_sections.new.disk c.args.section c.in_ok-push.ensures.items c.args.bytes.now
    c.requires.brings is.told is.later is.any_moment
    is.adds_only c.in-Err-Failed.ensures.maybe

-- ---- which names last

pub returns-then-self-clause-names_last : goal.returns-then-self-clause-names_last
returns-then-self-clause-names_last g c = names_still g.D.Disk.files g.D.Disk.leaves c.args.self.now

pub returns-in_err-push-clause-names_last : goal.returns-in_err-push-clause-names_last
returns-in_err-push-clause-names_last g c =
    let D = g.D.Disk in
    let disk = c.self.inside.disk in
    names_from D.files D.leaves c.self.view_is
    (names_beside D.files D.leaves _ disk c.push.new.self.items c.in_err-push.ensures.items
    (same_told_self (D.files disk))
    (each_same (D.files disk) (D.files disk) (D.leaves disk) (D.leaves disk) refl
    (λ name left is. is)))

pub returns-in-Ok-clause-names_last : goal.returns-in-Ok-clause-names_last
returns-in-Ok-clause-names_last g c =
    let D = g.D.Disk in
    let is = c.keep_sections.ensures in
    let more = c.in_ok-push.ensures.items in
    names_from D.files D.leaves c.self.view_is
    (names_kept D.files D.leaves _ c.keep_sections.new.disk c.push.new.self.items
    (omega (
      arith,
      c.self.invariant.0.few,
      ap length more,
      length-append c.self.inside.sections.items (c.args.section ∷ []),
    )) is.told is.others is.elsewhere)

pub returns-in-Err-OutOfMemory-clause-names_last : goal.returns-in-Err-OutOfMemory-clause-names_last
returns-in-Err-OutOfMemory-clause-names_last g c =
    let D = g.D.Disk in
    let s = c.self.inside in
    let mid = c.keep_sections.new.disk in
    let memory = c.in-Err-OutOfMemory.ensures in
    let other = not_failed _ refl c.in-Err-OutOfMemory.field-0-is in
    names_from D.files D.leaves c.self.view_is
    (names_beside D.files D.leaves _ mid c.take_back.new.sections.items
    (c.take_back.ensures s.sections.items c.args.section c.in_ok-push.ensures.items)
    c.keep_sections.ensures.told
    (each_same (D.files s.disk) (D.files mid) (D.leaves s.disk) (D.leaves mid)
    (memory.same other) (memory.images other).fewer))

pub returns-in-Err-Failed-clause-names_last : goal.returns-in-Err-Failed-clause-names_last
returns-in-Err-Failed-clause-names_last g c = names_stopped g.D.Disk.files g.D.Disk.leaves _ _ refl
