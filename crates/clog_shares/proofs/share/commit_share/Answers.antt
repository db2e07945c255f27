use Rattle.std.proofs.Common.{ℕ, refl, sym, ap, ◌∙◌, subst, arith}
use Rattle.std.proofs.lemmas.Option.{same_Some}
use Rattle.path_table.specs.declared.trying.PathSeat.{PathSeat}
use Rattle.clog_shares.specs.Sealing.{HasWaited}
use Rattle.clog_shares.specs.Shares.{ArePrepared, LogsShare, logged_by}
use Rattle.clog_shares.specs.Timed.{HasTimed}
use Rattle.clog_shares.proofs.Committing.{as_many}
use Rattle.clog_shares.proofs.Paying.{has_opened}
use Rattle.clog_shares.proofs.share.commit_share.Goals as goal

pub returns-clause-logged : goal.returns-clause-logged
returns-clause-logged g c = λ number lines ready.
    let r = c.args.run.now in
    let seated = ready.0 in
    let same = same_Some seated.seat c.in-Some.seat
    (sym seated.has ∙ (sym c.take.ensures.value ∙ c.in-Some.is)) in
    let number_is = ap (λ (s : PathSeat g.row.K.Denot). s.member.number) (sym same)
    ∙ seated.number_is in
    let w = c.commit_writes-seat in
    record {
      seat = w.result.0;
      has = refl;
      of_path = w.ensures.committed.same.0;
      number_is = w.ensures.committed.same.1 ∙ number_is;
      logs = subst (λ (k : ℕ). LogsShare k lines (logged_by w.result.0.member) w.result.1)
          number_is
          (w.ensures.committed.logs lines
          (subst (λ (v : _). ArePrepared r.sizes lines v.items)
          (sym c.replace-writes.ensures.value) ready.1.prepared));
      why = w.ensures.committed.why;
      flushed = w.ensures.flushed;
      opened = has_opened r.flush_at c.in-Some.seat.member.number lines w.result.1
          w.result.0
          (w.ensures.committed.logs lines
          (subst (λ (v : _). ArePrepared r.sizes lines v.items)
          (sym c.replace-writes.ensures.value) ready.1.prepared)) w.ensures.committed.paid;
      issued = w.ensures.committed.issued;
    }

pub returns-clause-timed : goal.returns-clause-timed
returns-clause-timed g c = λ period periodic none s is.
    let r = c.args.run.now in
    let w = c.commit_writes-seat in
    subst (λ (t : PathSeat g.row.K.Denot). HasTimed (g.C.Clock.tells r.clock.now)
    r.syncing.mode r.syncing.since_ms t) (same_Some w.result.0 s is)
    (w.ensures.committed.timed period periodic none)

pub returns-clause-waited : goal.returns-clause-waited
returns-clause-waited g c = λ batch s is.
    let w = c.commit_writes-seat in
    subst (λ (t : PathSeat g.row.K.Denot). HasWaited t) (same_Some w.result.0 s is)
    (w.ensures.committed.waited batch)

pub commit_writes-seat-requires-clause-few : goal.commit_writes-seat-requires-clause-few
commit_writes-seat-requires-clause-few g c = let ready = c.requires.ready in
    let many = as_many _ _ ready.1 (subst (λ (v : _). ArePrepared c.args.run.now.sizes ready.1
    v.items)
    (sym c.replace-writes.ensures.value) ready.2.1.prepared) in
    let few = ready.2.2 in omega (arith, many, few)
