use Rattle.std.proofs.Common.{refl, subst, ℕ, List, Some}
use Rattle.clog_segments.proofs.Lived.{lives_still}
use Rattle.clog_segments.proofs.OtherFiles.{lives_by}
use Rattle.clog_segments.proofs.Untouched.{failed, untouched, failed_on, untouched_on}
use Rattle.clog_segments.proofs.NamesKept.{names_asked, names_from, names_still, names_stopped}
use Rattle.clog_segments.specs.Numbering.{AreGreatest}
use Rattle.clog_segments.proofs.Numbering.{keeps_same, listed_known}
use Rattle.clog_segments.proofs.section_log.SectionLog.table_sequences.Goals as goal

-- ---- what it keeps

pub invariant_of-self : goal.invariant_of-self
invariant_of-self g c =
    let D = g.D.Disk in
    let is = c.list.ensures in
    untouched c.self.invariant c.if-self.false g.met.D.Disk.counts_now c.list.new.self
    g.met.D.Disk.only_now is.same is.time (Some c.of-listed.result)
    (λ keeps. listed_known (D.files c.self.inside.disk) (D.files c.list.new.self) c.in-Ok.names
    c.of-listed.result is.same.files c.in-Ok.ensures.names
    (subst (λ (l : List (List ℕ)). AreGreatest l c.of-listed.result.greatest)
    c.as_slice.ensures c.of-listed.ensures))

pub invariant_of-self-in-Err-OutOfMemory : goal.invariant_of-self-in-Err-OutOfMemory
invariant_of-self-in-Err-OutOfMemory g c =
    let D = g.D.Disk in
    let s = c.self.inside in
    let is = c.list.ensures in
    untouched c.self.invariant c.if-self.false g.met.D.Disk.counts_now c.list.new.self
    g.met.D.Disk.only_now is.same is.time s.sequences
    (keeps_same (D.files s.disk) (D.files c.list.new.self) s.sequences is.same.files)

pub invariant_of-self-in-Err-Failed : goal.invariant_of-self-in-Err-Failed
invariant_of-self-in-Err-Failed g c =
    let is = c.list.ensures in
    failed c.self.invariant c.if-self.false g.met.D.Disk.counts_now c.list.new.self
    g.met.D.Disk.only_now is.same is.time

-- ---- that it lives on

pub returns-then-self-clause-lives : goal.returns-then-self-clause-lives
returns-then-self-clause-lives g c lives =
    let D = g.D.Disk in
    lives_still D.files D.moment D.since D.leaves D.read_at D.lasted_at c.args.self.now
    (g.met.D.Disk.only_now c.args.self.now.disk) lives

pub returns-in-Some-clause-lives : goal.returns-in-Some-clause-lives
returns-in-Some-clause-lives g c lives =
    let D = g.D.Disk in
    lives_still D.files D.moment D.since D.leaves D.read_at D.lasted_at c.args.self.now
    (g.met.D.Disk.only_now c.args.self.now.disk) lives

pub returns-in-Ok-clause-lives : goal.returns-in-Ok-clause-lives
returns-in-Ok-clause-lives g c =
    let is = c.list.ensures in
    lives_by c.self.view_is
    (untouched_on c.self.invariant c.if-self.false g.met.D.Disk.counts_now c.list.new.self
    g.met.D.Disk.only_now is.same is.time)

pub returns-in-Err-OutOfMemory-clause-lives : goal.returns-in-Err-OutOfMemory-clause-lives
returns-in-Err-OutOfMemory-clause-lives g c =
    let is = c.list.ensures in
    lives_by c.self.view_is
    (untouched_on c.self.invariant c.if-self.false g.met.D.Disk.counts_now c.list.new.self
    g.met.D.Disk.only_now is.same is.time)

pub returns-in-Err-Failed-clause-lives : goal.returns-in-Err-Failed-clause-lives
returns-in-Err-Failed-clause-lives g c =
    let is = c.list.ensures in
    lives_by c.self.view_is
    (failed_on c.self.invariant c.if-self.false g.met.D.Disk.counts_now c.list.new.self
    g.met.D.Disk.only_now is.same is.time)

-- ---- which names last

pub returns-then-self-clause-names_last : goal.returns-then-self-clause-names_last
returns-then-self-clause-names_last g c = names_still g.D.Disk.files g.D.Disk.leaves c.args.self.now

pub returns-in-Some-clause-names_last : goal.returns-in-Some-clause-names_last
returns-in-Some-clause-names_last g c = names_still g.D.Disk.files g.D.Disk.leaves c.args.self.now

pub returns-in-Ok-clause-names_last : goal.returns-in-Ok-clause-names_last
returns-in-Ok-clause-names_last g c =
    let D = g.D.Disk in
    names_from D.files D.leaves c.self.view_is
    (names_asked D.files D.leaves _ c.list.new.self c.list.ensures.same)

pub returns-in-Err-OutOfMemory-clause-names_last : goal.returns-in-Err-OutOfMemory-clause-names_last
returns-in-Err-OutOfMemory-clause-names_last g c =
    let D = g.D.Disk in
    names_from D.files D.leaves c.self.view_is
    (names_asked D.files D.leaves _ c.list.new.self c.list.ensures.same)

pub returns-in-Err-Failed-clause-names_last : goal.returns-in-Err-Failed-clause-names_last
returns-in-Err-Failed-clause-names_last g c = names_stopped g.D.Disk.files g.D.Disk.leaves _ _ refl
