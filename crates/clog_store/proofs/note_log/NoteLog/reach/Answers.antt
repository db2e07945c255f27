use Rattle.std.proofs.Common.{◌≡◌, ◌+◌, ℕ, false, sym, ◌∙◌, ap, subst}
use Rattle.std.proofs.lemmas.Bool.{true≢false}
use Rattle.clog_segments.specs.NoteLog.{BeginsFrom, IsNoteLog, NoteState}
use Rattle.clog_store.specs.NoteSteps.{Enters}
use Rattle.clog_store.proofs.NoteGoes.{goes_still}
use Rattle.clog_store.proofs.NoteLeaves.{leaves_still}
use Rattle.clog_store.proofs.NoteReaches.{begins_next, far_now, none_written}
use Rattle.clog_store.proofs.NoteTakes.{takes_reached}
use Rattle.clog_store.proofs.note_log.NoteLog.reach.Goals as goal

-- ---- the log is not called

pub returns-then-is_stopped-clause-others : goal.returns-then-is_stopped-clause-others
returns-then-is_stopped-clause-others g c =
    (leaves_still g.D.Disk.files g.D.Disk.changes c.args.self.now.log).rest

pub returns-then-is_stopped-clause-writes : goal.returns-then-is_stopped-clause-writes
returns-then-is_stopped-clause-writes g c =
    (leaves_still g.D.Disk.files g.D.Disk.changes c.args.self.now.log).brings

pub returns-then-is_stopped-clause-goes : goal.returns-then-is_stopped-clause-goes
returns-then-is_stopped-clause-goes g c =
    let D = g.D.Disk in
    goes_still D.files D.moment D.since D.leaves D.read_at D.lasted_at c.args.self.now.log
    (g.met.D.Disk.only_now c.args.self.now.log.disk)

pub returns-then-not-is_short_of-clause-others : goal.returns-then-not-is_short_of-clause-others
returns-then-not-is_short_of-clause-others g c =
    (leaves_still g.D.Disk.files g.D.Disk.changes c.args.self.now.log).rest

pub returns-then-not-is_short_of-clause-writes : goal.returns-then-not-is_short_of-clause-writes
returns-then-not-is_short_of-clause-writes g c =
    (leaves_still g.D.Disk.files g.D.Disk.changes c.args.self.now.log).brings

pub returns-then-not-is_short_of-clause-goes : goal.returns-then-not-is_short_of-clause-goes
returns-then-not-is_short_of-clause-goes g c =
    let D = g.D.Disk in
    goes_still D.files D.moment D.since D.leaves D.read_at D.lasted_at c.args.self.now.log
    (g.met.D.Disk.only_now c.args.self.now.log.disk)

-- ---- how far it has gone

pub returns-then-not-is_short_of-clause-far : goal.returns-then-not-is_short_of-clause-far
returns-then-not-is_short_of-clause-far g c =
    let s = c.args.self.now in
    let runs : s.log.is_stopped ≡ false =
    ap (λ (x : NoteState g.row.D.Denot). x.log.is_stopped) (sym c.self.view_is)
    ∙ sym c.is_stopped.ensures ∙ c.if-is_stopped.false in
    far_now s c.args.upper.0 runs (subst IsNoteLog c.self.view_is c.self.invariant)
    c.is_short_of.ensures.sound c.requires
    (λ short. absurd (true≢false (sym (c.is_short_of.ensures.short.1 short)
    ∙ c.if-not-is_short_of.true)))

pub go_on-requires-clause-none : goal.go_on-requires-clause-none
go_on-requires-clause-none g c =
    let s = c.args.self.now in
    let runs : s.log.is_stopped ≡ false =
    ap (λ (x : NoteState g.row.D.Denot). x.log.is_stopped) (sym c.self.view_is)
    ∙ sym c.is_stopped.ensures ∙ c.if-is_stopped.false in
    none_written s c.args.upper.0 runs (subst IsNoteLog c.self.view_is c.self.invariant) c.requires
    (c.is_short_of.ensures.short.0 c.if-not-is_short_of.false)

pub go_on-requires-clause-begins : goal.go_on-requires-clause-begins
go_on-requires-clause-begins g c =
    let s = c.args.self.now in
    let runs : s.log.is_stopped ≡ false =
    ap (λ (x : NoteState g.row.D.Denot). x.log.is_stopped) (sym c.self.view_is)
    ∙ sym c.is_stopped.ensures ∙ c.if-is_stopped.false in
    let id : s.log.id ≡ c.id-next.result =
    ap (λ (x : NoteState g.row.D.Denot). x.log.id) (sym c.self.view_is)
    ∙ sym c.id-next.ensures.id in
    subst (λ (k : ℕ). BeginsFrom s.base (k + 1) s.kept) id (begins_next s c.args.upper.0 runs
    (subst IsNoteLog c.self.view_is c.self.invariant) c.requires
    (c.is_short_of.ensures.short.0 c.if-not-is_short_of.false))

-- ---- it stands no further than what comes next

pub returns-clause-takes : goal.returns-clause-takes
returns-clause-takes g c dropped takes still =
    let s = c.args.self.now in
    let runs : s.log.is_stopped ≡ false =
    ap (λ (x : NoteState g.row.D.Denot). x.log.is_stopped) (sym c.self.view_is)
    ∙ sym c.is_stopped.ensures ∙ c.if-is_stopped.false in
    let id : c.id-next.result ≡ s.log.id =
    c.id-next.ensures.id ∙ ap (λ (x : NoteState g.row.D.Denot). x.log.id) c.self.view_is in
    takes_reached s c.args.upper.0 runs (subst IsNoteLog c.self.view_is c.self.invariant) c.requires
    (c.is_short_of.ensures.short.0 c.if-not-is_short_of.false) c.go_on.new.self c.go_on.ensures.same
    c.go_on.result
    (subst (λ (k : ℕ). Enters s.log c.go_on.new.self.log (k + 1) c.go_on.result) id
    c.go_on.ensures.enters) dropped takes
