use Rattle.std.proofs.Common.{◌≡◌, ℕ, true, List, Option, reverse, sym, ap, ◌∙◌, subst, arith}
use Rattle.std.specs.Prelude.{IsSome}
use Rattle.std.proofs.lemmas.Option.{none-some}
use Rattle.path_core.specs.declared.note.EntryNote.{EntryNote}
use Rattle.path_table.specs.Members.{view_of}
use Rattle.clog_shares.specs.declared.fault.WriteFault.{WriteFault}
use Rattle.clog_shares.specs.Committed.{HasCommitted}
use Rattle.clog_shares.specs.Shares.{logged_by}
use Rattle.clog_shares.specs.Tallied.{ArePaid, HasFlushedAll}
use Rattle.clog_shares.specs.Tallies.{MayTally}
use Rattle.clog_shares.proofs.Committing.{earlier_on, logs_on}
use Rattle.clog_shares.proofs.Timing.{timed_on}
use Rattle.clog_shares.proofs.share.commit_writes.Goals as goal

-- ---- all writes are committed, and tables are flushed behind them

pub flush_rest-requires-clause-table : goal.flush_rest-requires-clause-table
flush_rest-requires-clause-table g c = c.commit_lines-seat.ensures.committed.same.0

pub flush_rest-requires-clause-files : goal.flush_rest-requires-clause-files
flush_rest-requires-clause-files g c =
    subst (λ (f : Option ℕ). IsSome f → c.args.run.now.path.now.table.size.files ≡ true)
    (sym c.commit_lines-seat.ensures.limit) c.args.run.now.files

pub flush_rest-requires-clause-tables : goal.flush_rest-requires-clause-tables
flush_rest-requires-clause-tables g c = sym c.args.run.now.sized.tables ∙ c.args.run.now.tables

pub returns-in-None-clause-committed : goal.returns-in-None-clause-committed
returns-in-None-clause-committed g c =
    let r = c.args.run.now in
    let w = c.args.seat.member.number in
    let lines = c.commit_lines-seat in let old = lines.ensures.committed in
    let now = c.flush_rest.ensures in
    let then = (view_of lines.result.0.member).trail in
    let after = (view_of c.flush_rest.result.0.member).trail in
    record {
      same = (now.keeps.0.0, now.keeps.0.1 ∙ old.same.1);
      logs = λ ls prepared.
          logs_on w ls (logged_by lines.result.0.member) (logged_by c.flush_rest.result.0.member)
          lines.result.2 c.flush_rest.result.1
          (ap (λ (l : List EntryNote). reverse l) now.keeps.1) (λ none. c.in-None.is)
          (old.logs ls prepared);
      why = now.why;
      issued = let few = c.requires.few in let written = lines.ensures.issued in
          let issued = now.issued in omega (arith, few, written, issued);
      waited = λ batch. earlier_on then after now.keeps.1 now.keeps.2 (old.waited batch);
      timed = λ period periodic none.
          let timed = old.timed period periodic c.in-None.is in (
            timed.0,
            timed_on (g.C.Clock.tells r.clock.now) r.syncing.mode r.syncing.since_ms then after
                timed.0 now.keeps.1 now.keeps.2 timed.1,
          );
      paid = subst (λ (k : ℕ). ArePaid r.flush_at k after) old.same.1
          (subst (λ (f : Option ℕ). ArePaid f lines.result.0.member.number after)
          lines.ensures.limit
          (now.paid (subst (λ (k : ℕ). MayTally k lines.result.1 then) (sym old.same.1)
          (lines.ensures.tallies c.in-None.is))));
    }

pub returns-in-None-clause-flushed : goal.returns-in-None-clause-flushed
returns-in-None-clause-flushed g c = λ none.
    let lines = c.commit_lines-seat in
    subst (λ (f : Option ℕ). HasFlushedAll f c.flush_rest.result.0) lines.ensures.limit
    (c.flush_rest.ensures.flushed none
    (subst (λ (k : ℕ). MayTally k lines.result.1 (view_of lines.result.0.member).trail)
    (sym lines.ensures.committed.same.1) (lines.ensures.tallies c.in-None.is)))

pub flush_rest-requires-clause-some : goal.flush_rest-requires-clause-some
flush_rest-requires-clause-some g c = λ most is.
    c.args.run.now.some most (sym c.commit_lines-seat.ensures.limit ∙ is)

pub flush_rest-requires-clause-spends : goal.flush_rest-requires-clause-spends
flush_rest-requires-clause-spends g c = let few = c.requires.few in
    let written = c.commit_lines-seat.ensures.issued in omega (arith, few, written)

-- ---- one was refused

pub returns-in-Some-clause-committed : goal.returns-in-Some-clause-committed
returns-in-Some-clause-committed g c =
    let r = c.args.run.now in let t = r.path.now.table in
    subst (λ (f : Option WriteFault). HasCommitted t.table.shared.table_id t.size r.sizes
    r.flush_at (g.C.Clock.tells r.clock.now) r.syncing.mode r.syncing.since_ms c.args.writes.items
    c.args.seat c.commit_lines-seat.result.0 f) c.in-Some.is
    c.commit_lines-seat.ensures.committed

pub returns-in-Some-clause-flushed : goal.returns-in-Some-clause-flushed
returns-in-Some-clause-flushed g c = λ none. absurd (none-some c.in-Some.fault (sym none))
