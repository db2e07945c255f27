use Rattle.std.proofs.Common.{◌/◌, ◌≤◌, Option, sym, ◌∙◌, subst, arith}
use Rattle.std.proofs.lemmas.Option.{none-some}
use Rattle.path_table.specs.Members.{view_of}
use Rattle.sync_core.specs.declared.SyncCore.{SyncCore}
use Rattle.write_path.specs.Receipts.{IsCommitted}
use Rattle.clog_shares.specs.declared.fault.WriteFault.{WriteFault}
use Rattle.write_path.proofs.Growing.{both}
use Rattle.clog_shares.specs.Crews.{KnowsWhy}
use Rattle.clog_shares.proofs.Committing.{adds_on, all_earlier, commit_grows, commit_why, may_add}
use Rattle.clog_shares.proofs.Committing.{may_on, one_sealed, one_waits, sealed_on, where_logged}
use Rattle.clog_shares.proofs.Opening.{commit_opens}
use Rattle.clog_shares.proofs.Timing.{logs_last, times_write}
use Rattle.clog_shares.proofs.worker.commit_one.Goals as goal

-- ---- nothing was refused by the commit, and the log was synced behind it or not

pub returns-in-None-clause-same : goal.returns-in-None-clause-same
returns-in-None-clause-same g c =
    let synced = c.sync_when_due.ensures.keeps.0 in
    let same = c.commit-seat.ensures.same in
    (synced.0, synced.1 ∙ same.1)

pub returns-in-None-clause-grown : goal.returns-in-None-clause-grown
returns-in-None-clause-grown g c =
    let r = c.args.run.now in
    let size = r.path.now.table.size in
    let w = c.args.seat.member.number in
    let before = (view_of c.args.seat.member).trail in
    let v = view_of c.commit-seat.result.0.member in
    both before v.trail (view_of c.sync_when_due.result.0.member).trail
    (commit_grows size w before c.args.prepared v r.path.now.mode c.commit-seat.result.1
    c.commit-seat.ensures.committed) c.sync_when_due.ensures.keeps.2

pub returns-in-None-clause-opened : goal.returns-in-None-clause-opened
returns-in-None-clause-opened g c = λ t.
    let r = c.args.run.now in
    c.sync_when_due.ensures.opened t
    ∙ commit_opens r.path.now.table.size c.args.seat.member.number
    (view_of c.args.seat.member).trail c.args.prepared (view_of c.commit-seat.result.0.member)
    r.path.now.mode c.commit-seat.result.1 c.commit-seat.ensures.committed t

pub returns-in-None-clause-logged : goal.returns-in-None-clause-logged
returns-in-None-clause-logged g c = λ none.
    let r = c.args.run.now in
    let size = r.path.now.table.size in
    let w = c.args.seat.member.number in
    let before = (view_of c.args.seat.member).trail in
    let v = view_of c.commit-seat.result.0.member in
    adds_on w c.args.prepared before v.trail (view_of c.sync_when_due.result.0.member).trail
    c.sync_when_due.ensures.keeps.1
    (where_logged size w before c.args.prepared v r.path.now.mode c.commit-seat.result.1
    c.commit-seat.ensures.committed (sym c.refusal_in.ensures ∙ c.in-None.is))

pub returns-in-None-clause-may : goal.returns-in-None-clause-may
returns-in-None-clause-may g c =
    let r = c.args.run.now in
    let size = r.path.now.table.size in
    let w = c.args.seat.member.number in
    let before = (view_of c.args.seat.member).trail in
    let v = view_of c.commit-seat.result.0.member in
    may_on w c.args.prepared before v.trail (view_of c.sync_when_due.result.0.member).trail
    c.sync_when_due.ensures.keeps.1
    (may_add size w before c.args.prepared v r.path.now.mode c.commit-seat.result.1
    c.commit-seat.ensures.committed)

pub returns-in-None-clause-sealed : goal.returns-in-None-clause-sealed
returns-in-None-clause-sealed g c = λ batch all none.
    let r = c.args.run.now in
    let size = r.path.now.table.size in
    let w = c.args.seat.member.number in
    let before = (view_of c.args.seat.member).trail in
    let v = view_of c.commit-seat.result.0.member in
    let keeps = c.sync_when_due.ensures.keeps in
    sealed_on v.trail (view_of c.sync_when_due.result.0.member).trail keeps.1 keeps.2
    (one_sealed size w before c.args.prepared v c.commit-seat.result.1
    (subst (λ (m : SyncCore). IsCommitted m size w before c.args.prepared c.commit-seat.result.1 v)
    (r.mode ∙ batch) c.commit-seat.ensures.committed)
    (sym c.refusal_in.ensures ∙ c.in-None.is) all)

pub returns-in-None-clause-waited : goal.returns-in-None-clause-waited
returns-in-None-clause-waited g c = λ batch all.
    let r = c.args.run.now in
    let size = r.path.now.table.size in
    let w = c.args.seat.member.number in
    let before = (view_of c.args.seat.member).trail in
    let v = view_of c.commit-seat.result.0.member in
    let keeps = c.sync_when_due.ensures.keeps in
    let after = (view_of c.sync_when_due.result.0.member).trail in
    all_earlier after
    (sealed_on v.trail after keeps.1 keeps.2
    (one_sealed size w before c.args.prepared v c.commit-seat.result.1
    (subst (λ (m : SyncCore). IsCommitted m size w before c.args.prepared c.commit-seat.result.1 v)
    (r.mode ∙ batch) c.commit-seat.ensures.committed)
    (sym c.refusal_in.ensures ∙ c.in-None.is) all))

pub returns-in-None-clause-timed : goal.returns-in-None-clause-timed
returns-in-None-clause-timed g c = λ period periodic none.
    let r = c.args.run.now in
    let size = r.path.now.table.size in
    let w = c.args.seat.member.number in
    let before = (view_of c.args.seat.member).trail in
    let then = c.commit-seat.result.0 in
    let v = view_of then.member in
    let due = c.sync_when_due in
    times_write (g.C.Clock.tells r.clock.now) r.syncing.mode c.args.last_ms before then
    due.result.0 due.result.1 due.result.2
    (logs_last size w before c.args.prepared v period c.commit-seat.result.1
    (subst (λ (m : SyncCore). IsCommitted m size w before c.args.prepared c.commit-seat.result.1 v)
    (r.mode ∙ periodic) c.commit-seat.ensures.committed)
    (sym c.refusal_in.ensures ∙ c.in-None.is))
    none due.ensures.keeps.1 due.ensures.keeps.2 (due.ensures.due period periodic)

-- ---- the commit was refused

pub returns-in-Some-clause-grown : goal.returns-in-Some-clause-grown
returns-in-Some-clause-grown g c =
    let r = c.args.run.now in
    commit_grows r.path.now.table.size c.args.seat.member.number
    (view_of c.args.seat.member).trail c.args.prepared (view_of c.commit-seat.result.0.member)
    r.path.now.mode c.commit-seat.result.1 c.commit-seat.ensures.committed

pub returns-in-Some-clause-opened : goal.returns-in-Some-clause-opened
returns-in-Some-clause-opened g c =
    let r = c.args.run.now in
    commit_opens r.path.now.table.size c.args.seat.member.number
    (view_of c.args.seat.member).trail c.args.prepared (view_of c.commit-seat.result.0.member)
    r.path.now.mode c.commit-seat.result.1 c.commit-seat.ensures.committed

pub returns-in-Some-clause-timed : goal.returns-in-Some-clause-timed
returns-in-Some-clause-timed g c = λ period periodic none.
    absurd (none-some c.in-Some.fault (sym none))

pub returns-in-Some-clause-logged : goal.returns-in-Some-clause-logged
returns-in-Some-clause-logged g c = λ none. absurd (none-some c.in-Some.fault (sym none))

pub returns-in-Some-clause-may : goal.returns-in-Some-clause-may
returns-in-Some-clause-may g c =
    let r = c.args.run.now in
    may_add r.path.now.table.size c.args.seat.member.number
    (view_of c.args.seat.member).trail c.args.prepared (view_of c.commit-seat.result.0.member)
    r.path.now.mode c.commit-seat.result.1 c.commit-seat.ensures.committed

pub returns-in-Some-clause-why : goal.returns-in-Some-clause-why
returns-in-Some-clause-why g c =
    let r = c.args.run.now in
    let size = r.path.now.table.size in
    let p = c.requires.prepared in
    let is = p.2 in
    let fits = is.fits in let long = is.size in let same = r.sized.capacity in
    let small : c.args.prepared.size ≤ size.capacity / 2 = omega (arith, fits, long, same) in
    subst (λ (f : Option WriteFault). KnowsWhy size f c.commit-seat.result.0)
    (sym c.refusal_in.ensures ∙ c.in-Some.is)
    (commit_why size c.args.seat.member.number (view_of c.args.seat.member).trail c.args.prepared
    c.commit-seat.result.0 small r.path.now.mode c.commit-seat.result.1
    c.commit-seat.ensures.committed)

pub returns-in-Some-clause-sealed : goal.returns-in-Some-clause-sealed
returns-in-Some-clause-sealed g c = λ batch all none.
    absurd (none-some c.in-Some.fault (sym none))

pub returns-in-Some-clause-waited : goal.returns-in-Some-clause-waited
returns-in-Some-clause-waited g c = λ batch all.
    let r = c.args.run.now in
    let size = r.path.now.table.size in
    let w = c.args.seat.member.number in
    let before = (view_of c.args.seat.member).trail in
    let v = view_of c.commit-seat.result.0.member in
    one_waits size w before c.args.prepared v c.commit-seat.result.1
    (subst (λ (m : SyncCore). IsCommitted m size w before c.args.prepared c.commit-seat.result.1 v)
    (r.mode ∙ batch) c.commit-seat.ensures.committed) all

-- ---- few barriers are issued

pub returns-in-None-clause-issued : goal.returns-in-None-clause-issued
returns-in-None-clause-issued g c = let first = c.commit-seat.ensures.issued in
    let more = c.sync_when_due.ensures.issued in omega (arith, first, more)

pub sync_when_due-requires-clause-spends : goal.sync_when_due-requires-clause-spends
sync_when_due-requires-clause-spends g c = let first = c.commit-seat.ensures.issued in
    let low = c.requires.spends in omega (arith, first, low)
