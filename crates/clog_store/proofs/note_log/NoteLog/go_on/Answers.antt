use Rattle.std.proofs.Common.{◌≡◌, sym, ◌∙◌, ap, subst}
use Rattle.clog_segments.specs.NoteLog.{BeginsFrom, NoteState}
use Rattle.clog_segments.proofs.Lived.{lives_still}
use Rattle.clog_store.proofs.NoteFrom.{from_on}
use Rattle.clog_store.proofs.NoteLeaves.{leaves_still}
use Rattle.clog_store.proofs.NoteReaches.{noted_on}
use Rattle.clog_segments.proofs.NamesKept.{names_from, names_still}
use Rattle.clog_store.proofs.note_log.NoteLog.go_on.Goals as goal

pub returns-then-is_stopped-clause-others : goal.returns-then-is_stopped-clause-others
returns-then-is_stopped-clause-others g c =
    (leaves_still g.D.Disk.files g.D.Disk.changes c.args.self.now.log).rest

pub returns-then-is_stopped-clause-writes : goal.returns-then-is_stopped-clause-writes
returns-then-is_stopped-clause-writes g c =
    (leaves_still g.D.Disk.files g.D.Disk.changes c.args.self.now.log).brings

pub returns-then-is_stopped-clause-lives : goal.returns-then-is_stopped-clause-lives
returns-then-is_stopped-clause-lives g c lives =
    let D = g.D.Disk in
    let log = c.args.self.now.log in
    lives_still D.files D.moment D.since D.leaves D.read_at D.lasted_at log
    (g.met.D.Disk.only_now log.disk) lives

pub invariant_of-self : goal.invariant_of-self
invariant_of-self g c =
    let i = c.self.inside in
    noted_on _ c.enter.new.log c.args.id (sym c.is_stopped.ensures ∙ c.if-is_stopped.false)
    (subst (λ (x : NoteState g.row.D.Denot). x.written ≡ 0) (sym c.self.view_is) c.requires.none)
    (subst (λ (x : NoteState g.row.D.Denot). BeginsFrom x.base c.args.id x.kept)
    (sym c.self.view_is) c.requires.begins) c.self.invariant c.enter.result c.enter.ensures.enters
    (from_on i.base i.log c.enter.new.log (g.D.Disk.files i.log.disk)
    (g.D.Disk.files c.enter.new.log.disk) c.enter.ensures.leaves.rest c.self.invariant.from)

pub returns-then-is_stopped-clause-names_last : goal.returns-then-is_stopped-clause-names_last
returns-then-is_stopped-clause-names_last g c =
    names_still g.D.Disk.files g.D.Disk.leaves c.args.self.now.log

pub returns-clause-names_last : goal.returns-clause-names_last
returns-clause-names_last g c =
    names_from g.D.Disk.files g.D.Disk.leaves
    (ap (λ (x : NoteState g.row.D.Denot). x.log) c.self.view_is) c.enter.ensures.goes.names
