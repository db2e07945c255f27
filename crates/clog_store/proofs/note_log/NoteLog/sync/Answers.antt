use Rattle.std.proofs.Common.{◌≡◌, List, drop, take, sym, subst}
use Rattle.path_core.specs.declared.note.EntryNote.{EntryNote}
use Rattle.path_core.specs.Keeper.{IsParted}
use Rattle.clog_segments.specs.NoteLog.{BeginsFrom}
use Rattle.clog_segments.proofs.Lived.{lives_still}
use Rattle.clog_store.proofs.NoteGrows.{grows_of}
use Rattle.clog_store.proofs.NoteLeaves.{leaves_still}
use Rattle.clog_store.proofs.NoteSynced.{may_run}
use Rattle.clog_segments.proofs.NamesKept.{names_still}
use Rattle.clog_store.proofs.note_log.NoteLog.sync.Goals as goal

pub returns-then-is_stopped-clause-lives : goal.returns-then-is_stopped-clause-lives
returns-then-is_stopped-clause-lives g c lives =
    let D = g.D.Disk in
    let log = c.args.self.now.log in
    lives_still D.files D.moment D.since D.leaves D.read_at D.lasted_at log
    (g.met.D.Disk.only_now log.disk) lives

pub returns-then-not-may_begin-clause-lives : goal.returns-then-not-may_begin-clause-lives
returns-then-not-may_begin-clause-lives g c =
    let D = g.D.Disk in
    let log = c.args.self.now.log in
    lives_still D.files D.moment D.since D.leaves D.read_at D.lasted_at log
    (g.met.D.Disk.only_now log.disk)

pub returns-in_err-others-clause-lives : goal.returns-in_err-others-clause-lives
returns-in_err-others-clause-lives g c =
    let D = g.D.Disk in
    let log = c.args.self.now.log in
    lives_still D.files D.moment D.since D.leaves D.read_at D.lasted_at log
    (g.met.D.Disk.only_now log.disk)

pub log_run-outcome-requires-clause-may : goal.log_run-outcome-requires-clause-may
log_run-outcome-requires-clause-may g c =
    let pending = c.part_at-count.new.pending.items in
    let count = c.part_at-count.result in
    let is : c.split_off.new.self.items ≡ take count pending = c.in_ok-others.ensures.items in
    may_run c.args.self.now c.args.upto.0 c.args.pending.now.items c.split_off.new.self.items
    (drop count pending)
    (subst (λ (l : List EntryNote). IsParted c.args.upto.0 c.args.pending.now.items l
    (drop count pending)) (sym is) c.part_at-count.ensures.parted) c.requires
    (subst (λ (l : List EntryNote). BeginsFrom c.args.self.now.base c.args.self.now.log.id
    (drop c.args.self.now.written l)) c.deref.ensures.value
    (c.may_begin.ensures.0 c.if-not-may_begin.false))

-- ---- nothing is written

pub returns-then-is_stopped-clause-writes : goal.returns-then-is_stopped-clause-writes
returns-then-is_stopped-clause-writes g c =
    (leaves_still g.D.Disk.files g.D.Disk.changes c.args.self.now.log).brings

pub returns-then-is_stopped-clause-others : goal.returns-then-is_stopped-clause-others
returns-then-is_stopped-clause-others g c =
    (leaves_still g.D.Disk.files g.D.Disk.changes c.args.self.now.log).rest

pub returns-in_err-others-clause-others : goal.returns-in_err-others-clause-others
returns-in_err-others-clause-others g c =
    (leaves_still g.D.Disk.files g.D.Disk.changes c.args.self.now.log).rest

pub returns-then-not-may_begin-clause-others : goal.returns-then-not-may_begin-clause-others
returns-then-not-may_begin-clause-others g c =
    (leaves_still g.D.Disk.files g.D.Disk.changes c.args.self.now.log).rest

pub returns-then-not-may_begin-clause-writes : goal.returns-then-not-may_begin-clause-writes
returns-then-not-may_begin-clause-writes g c =
    (leaves_still g.D.Disk.files g.D.Disk.changes c.args.self.now.log).brings

pub returns-in_err-others-clause-writes : goal.returns-in_err-others-clause-writes
returns-in_err-others-clause-writes g c =
    (leaves_still g.D.Disk.files g.D.Disk.changes c.args.self.now.log).brings

-- ---- while the disk has not failed

pub returns-clause-grows : goal.returns-clause-grows
returns-clause-grows g c still =
    grows_of g.D.Disk.changes c.args.self.now.log c.log_run-outcome.new.self.log
    c.log_run-outcome.ensures.leaves.brings still

-- ---- which names last

pub returns-then-is_stopped-clause-names_last : goal.returns-then-is_stopped-clause-names_last
returns-then-is_stopped-clause-names_last g c =
    names_still g.D.Disk.files g.D.Disk.leaves c.args.self.now.log

pub returns-in_err-others-clause-names_last : goal.returns-in_err-others-clause-names_last
returns-in_err-others-clause-names_last g c =
    names_still g.D.Disk.files g.D.Disk.leaves c.args.self.now.log

pub returns-then-not-may_begin-clause-names_last : goal.returns-then-not-may_begin-clause-names_last
returns-then-not-may_begin-clause-names_last g c =
    names_still g.D.Disk.files g.D.Disk.leaves c.args.self.now.log
