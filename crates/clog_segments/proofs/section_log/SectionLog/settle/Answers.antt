use Rattle.std.proofs.Common.{◌∙◌, refl}
use Rattle.clog_segments.proofs.Lived.{lives_still, same_told}
use Rattle.clog_segments.proofs.NamesKept.{
  each_same,
  names_beside,
  names_from,
  names_settled,
  names_still,
  names_stopped,
}
use Rattle.clog_segments.proofs.OtherFiles.{lives_by}
use Rattle.clog_segments.proofs.Settles.{
  failed,
  failed_on,
  refused,
  refused_on,
  settled,
  settled_on,
}
use Rattle.clog_segments.proofs.section_log.SectionLog.settle.Goals as goal

-- ---- that it lives on

pub returns-then-self-clause-lives : goal.returns-then-self-clause-lives
returns-then-self-clause-lives g c lives =
    let D = g.D.Disk in
    lives_still D.files D.moment D.since D.leaves D.read_at D.lasted_at c.args.self.now
    (g.met.D.Disk.only_now c.args.self.now.disk) lives

pub returns-then-self-len-clause-lives : goal.returns-then-self-len-clause-lives
returns-then-self-len-clause-lives g c lives =
    let D = g.D.Disk in
    lives_still D.files D.moment D.since D.leaves D.read_at D.lasted_at c.args.self.now
    (g.met.D.Disk.only_now c.args.self.now.disk) lives

pub returns-in-Ok-clause-lives : goal.returns-in-Ok-clause-lives
returns-in-Ok-clause-lives g c =
    let is = c.settle_sections.ensures in
    lives_by c.self.view_is (settled_on c.self.invariant c.if-self.false g.met.D.Disk.counts_now
    (c.len.ensures ∙ c.self.inside.sections.ok.0) c.if-self-len.false c.settle_sections.new.disk
    is.same is.fewer is.time is.any_moment
    (c.len-self-inside.ensures ∙ c.self.inside.sections.ok.0) c.in-Ok.ensures.lasts)

pub returns-in-Err-OutOfMemory-clause-lives : goal.returns-in-Err-OutOfMemory-clause-lives
returns-in-Err-OutOfMemory-clause-lives g c =
    let is = c.settle_sections.ensures in
    lives_by c.self.view_is (refused_on c.self.invariant c.if-self.false g.met.D.Disk.counts_now
    (c.len.ensures ∙ c.self.inside.sections.ok.0) c.if-self-len.false c.settle_sections.new.disk
    is.same is.fewer is.time is.any_moment
    c.in-Err-OutOfMemory.ensures.refused)

pub returns-in-Err-Failed-clause-lives : goal.returns-in-Err-Failed-clause-lives
returns-in-Err-Failed-clause-lives g c =
    let is = c.settle_sections.ensures in
    lives_by c.self.view_is (failed_on c.self.invariant c.if-self.false g.met.D.Disk.counts_now
    (c.len.ensures ∙ c.self.inside.sections.ok.0) c.if-self-len.false c.settle_sections.new.disk
    is.same is.fewer is.time is.any_moment)

-- ---- what it keeps

pub invariant_of-self : goal.invariant_of-self
invariant_of-self g c =
    let is = c.settle_sections.ensures in
    settled c.self.invariant c.if-self.false g.met.D.Disk.counts_now
    (c.len.ensures ∙ c.self.inside.sections.ok.0) c.if-self-len.false c.settle_sections.new.disk
    is.same is.fewer is.time is.any_moment
    (c.len-self-inside.ensures ∙ c.self.inside.sections.ok.0) c.in-Ok.ensures.lasts
    c.in-Ok.ensures.here

pub invariant_of-self-in-Err-OutOfMemory : goal.invariant_of-self-in-Err-OutOfMemory
invariant_of-self-in-Err-OutOfMemory g c =
    let is = c.settle_sections.ensures in
    refused c.self.invariant c.if-self.false g.met.D.Disk.counts_now
    (c.len.ensures ∙ c.self.inside.sections.ok.0) c.if-self-len.false c.settle_sections.new.disk
    is.same is.fewer is.time is.any_moment
    c.in-Err-OutOfMemory.ensures.refused

pub invariant_of-self-in-Err-Failed : goal.invariant_of-self-in-Err-Failed
invariant_of-self-in-Err-Failed g c =
    let is = c.settle_sections.ensures in
    failed c.self.invariant c.if-self.false g.met.D.Disk.counts_now
    (c.len.ensures ∙ c.self.inside.sections.ok.0) c.if-self-len.false c.settle_sections.new.disk
    is.same is.fewer is.time is.any_moment

-- ---- which names last

pub returns-then-self-clause-names_last : goal.returns-then-self-clause-names_last
returns-then-self-clause-names_last g c = names_still g.D.Disk.files g.D.Disk.leaves c.args.self.now

pub returns-then-self-len-clause-names_last : goal.returns-then-self-len-clause-names_last
returns-then-self-len-clause-names_last g c =
    names_still g.D.Disk.files g.D.Disk.leaves c.args.self.now

pub returns-in-Ok-clause-names_last : goal.returns-in-Ok-clause-names_last
returns-in-Ok-clause-names_last g c =
    let D = g.D.Disk in
    let is = c.settle_sections.ensures in
    names_from D.files D.leaves c.self.view_is
    (names_settled D.files D.leaves _ c.settle_sections.new.disk c.len-self-inside.result
    is.same is.fewer c.in-Ok.ensures.here)

pub returns-in-Err-OutOfMemory-clause-names_last : goal.returns-in-Err-OutOfMemory-clause-names_last
returns-in-Err-OutOfMemory-clause-names_last g c =
    let D = g.D.Disk in
    let old = c.self.inside.disk in
    let is = c.settle_sections.ensures in
    let new = c.settle_sections.new.disk in
    names_from D.files D.leaves c.self.view_is
    (names_beside D.files D.leaves _ new _ refl (same_told (D.files old) (D.files new) is.same)
    (each_same (D.files old) (D.files new) (D.leaves old) (D.leaves new) is.same is.fewer))

pub returns-in-Err-Failed-clause-names_last : goal.returns-in-Err-Failed-clause-names_last
returns-in-Err-Failed-clause-names_last g c = names_stopped g.D.Disk.files g.D.Disk.leaves _ _ refl
