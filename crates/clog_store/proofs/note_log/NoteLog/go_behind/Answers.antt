use Rattle.std.proofs.Common.{◌+◌, ◌∙◌, inl, inr, refl, sym, ap, arith}
use Rattle.std.specs.Prelude.{◌-◌}
use Rattle.std.proofs.lemmas.Bool.{true≢false}
use Rattle.clog_segments.specs.NoteLog.{NoteState}
use Rattle.clog_segments.proofs.Lived.{lives_still}
use Rattle.clog_store.proofs.NoteBehind.{
  all_earlier,
  at_hand,
  fits_behind,
  kept_behind,
  none_later,
  none_written,
}
use Rattle.clog_store.proofs.NoteDue.{behind_earlier}
use Rattle.clog_store.proofs.NoteLeaves.{leaves_still}
use Rattle.clog_segments.proofs.NamesKept.{names_still}
use Rattle.clog_store.proofs.NoteTakes.{entered_id, unentered_any}
use Rattle.clog_store.proofs.StorePuts.{on_any}
use Rattle.clog_store.proofs.note_log.NoteLog.go_behind.Goals as goal

-- ---- behind the segment at hand

pub go_on-requires-clause-fits : goal.go_on-requires-clause-fits
go_on-requires-clause-fits g c =
    fits_behind c.self.view_is c.self.invariant c.requires.runs c.requires.due c.id-id.ensures.id
    c.id-id.ensures.sound (c.is_among.ensures.0 c.if-is_among.true)

pub go_on-requires-clause-none : goal.go_on-requires-clause-none
go_on-requires-clause-none g c =
    none_written c.self.view_is c.self.invariant c.requires.runs c.requires.due c.id-id.ensures.id
    c.id-id.ensures.sound (c.is_among.ensures.0 c.if-is_among.true)

pub go_on-requires-clause-begins : goal.go_on-requires-clause-begins
go_on-requires-clause-begins g c =
    kept_behind c.self.view_is c.self.invariant c.requires.runs c.requires.due c.id-id.ensures.id
    c.id-id.ensures.sound (c.is_among.ensures.0 c.if-is_among.true)

pub returns-then-is_among-clause-earlier : goal.returns-then-is_among-clause-earlier
returns-then-is_among-clause-earlier g c =
    behind_earlier c.args.self.now c.go_on.new.self c.args.due.now (c.id-id.result + 1)
    c.go_on.result c.go_on.ensures.enters c.go_on.ensures.same (λ o among.
    let most = none_later c.self.view_is c.self.invariant c.requires.runs c.requires.due
    c.id-id.ensures.id
    c.id-id.ensures.sound o among in
    omega (arith, most))

-- ---- the segment at hand is not due

pub returns-clause-earlier : goal.returns-clause-earlier
returns-clause-earlier g c =
    all_earlier c.self.view_is c.self.invariant c.requires.runs c.requires.due c.id-id.ensures.id
    c.id-id.ensures.sound (λ among.
    true≢false (sym (c.is_among.ensures.1 among) ∙ c.if-is_among.false))

pub returns-clause-others : goal.returns-clause-others
returns-clause-others g c =
    (leaves_still g.D.Disk.files g.D.Disk.changes c.args.self.now.log).rest

pub returns-clause-writes : goal.returns-clause-writes
returns-clause-writes g c =
    (leaves_still g.D.Disk.files g.D.Disk.changes c.args.self.now.log).brings

pub returns-clause-lives : goal.returns-clause-lives
returns-clause-lives g c lives =
    let D = g.D.Disk in
    let log = c.args.self.now.log in
    lives_still D.files D.moment D.since D.leaves D.read_at D.lasted_at log
    (g.met.D.Disk.only_now log.disk) lives

pub returns-clause-names_last : goal.returns-clause-names_last
returns-clause-names_last g c = names_still g.D.Disk.files g.D.Disk.leaves c.args.self.now.log

-- ---- where it stands

pub returns-then-is_among-clause-behind : goal.returns-then-is_among-clause-behind
returns-then-is_among-clause-behind g c =
    let now = c.args.self.now in
    let among = c.is_among.ensures.0 c.if-is_among.true in
    let log_is = ap (λ (x : NoteState g.row.D.Denot). x.log.id) c.self.view_is in
    on_any c.go_on.result
    (elim (entered_id now.log c.go_on.new.self.log (c.id-id.result + 1) c.go_on.result
    c.go_on.ensures.enters) [
      | inl same ↦ inl same
      | inr next ↦ inr (
        c.id-id.result - c.self.inside.base,
        among,
        at_hand c.self.view_is c.self.invariant c.requires.runs c.requires.due
            c.id-id.ensures.id c.id-id.ensures.sound among,
        omega (arith, next, c.id-id.ensures.id, log_is),
      )
    ])

pub returns-then-is_among-clause-still : goal.returns-then-is_among-clause-still
returns-then-is_among-clause-still g c =
    unentered_any c.args.self.now.log c.go_on.new.self.log (c.id-id.result + 1) c.go_on.result
    c.go_on.ensures.enters

pub returns-clause-behind : goal.returns-clause-behind
returns-clause-behind g c = inl refl
