use Rattle.std.proofs.Common.{ℕ, List, length, reverse, Option, None, sym, ap, ◌∙◌, subst, refl}
use Rattle.std.proofs.Common.{arith}
use Rattle.std.specs.Prelude.{Contains}
use Rattle.std.proofs.lemmas.List.{nil_from_length}
use Rattle.std.proofs.lemmas.Option.{none-some}
use Rattle.clog_base.proofs.Members.{nothing_there}
use Rattle.path_core.specs.declared.note.EntryNote.{EntryNote}
use Rattle.path_rule.specs.declared.view.OwnStep.{OwnStep}
use Rattle.path_rule.specs.Issued.{issued_in}
use Rattle.path_table.specs.Members.{view_of}
use Rattle.write_path.specs.declared.prepared.Prepared.{Prepared}
use Rattle.path_flush.specs.OwnWrites.{writes_of}
use Rattle.clog_shares.specs.declared.fault.WriteFault.{WriteFault}
use Rattle.clog_shares.specs.Crews.{KnowsWhy}
use Rattle.clog_shares.specs.Shares.{AddsWrite, ArePrepared, MayAddWrite, logged_by}
use Rattle.clog_shares.specs.Tallied.{ArePaid, AreCountedFor, IsCountedFor}
use Rattle.clog_shares.specs.Tallies.{MayTally, limit_of}
use Rattle.clog_shares.proofs.Committing.{GoesOn, all_earlier, begins, ends, logged, next_of}
use Rattle.clog_shares.proofs.Committing.{stopped_with}
use Rattle.clog_shares.proofs.NextLines.{GoesCounted, next_line, takes_next}
use Rattle.clog_shares.proofs.Tallying.{may_paid, none_yet}
use Rattle.clog_shares.proofs.Timing.{none_timed, one_timed}
use Rattle.clog_shares.proofs.share.commit_lines.Goals as goal

pub loop-prepared-init : goal.loop-prepared-init
loop-prepared-init g c =
    let r = c.args.run.now in
    let gives = c.into_iter-prepared-iterator.ensures.into_iter_gives in
    let w = c.args.seat.member.number in
    let none = ap (λ (l : List OwnStep). writes_of l) c.requires.unused in record {
      same = (c.requires.table, refl);
      goes = λ lines prepared. subst (λ (q : List Prepared × List EntryNote).
          GoesOn r.sizes w lines q.0 q.1)
          (λ i. (sym gives.0 i, reverse (sym none i)))
          (begins r.sizes w lines c.args.writes.items prepared);
      sealed = λ batch n among. absurd (nothing_there n
          (subst (λ (l : List EntryNote). Contains l n) none among));
      timed = λ period periodic.
          none_timed (g.C.Clock.tells r.clock.now) r.syncing.mode
          r.syncing.since_ms (view_of c.args.seat.member).trail none;
      counted = record {
        left = c.requires.prepared.0;
        prepared = subst (ArePrepared r.sizes c.requires.prepared.0) (sym gives.0)
            c.requires.prepared.1;
        counted = subst (AreCountedFor r.flush_at c.requires.prepared.0)
            (sym c.into_iter-counts.ensures.rest) c.requires.prepared.2;
        limit = c.new_tally-tally.ensures.limit;
        tallies = none_yet w c.new_tally-tally.result (view_of c.args.seat.member).trail
            c.requires.unused c.new_tally-tally.ensures.none;
      };
      issued = let none_yet = ap issued_in c.requires.unused in let items = ap length gives.0 in
          omega (arith, none_yet, items);
      left =
          let items = ap length c.into_iter-counts.ensures.rest in
          let long = c.into_iter-counts.ensures.len in
          omega (arith, items, long, c.args.counts.ok);
      count = let items = ap length gives.0 in omega (arith, items, gives.1, c.args.writes.ok);
    }

pub commit_next-next-requires-clause-table : goal.commit_next-next-requires-clause-table
commit_next-next-requires-clause-table g c = c.loop-prepared.invariant.same.0

pub commit_next-next-requires-clause-prepared : goal.commit_next-next-requires-clause-prepared
commit_next-next-requires-clause-prepared g c =
    let r = c.args.run.now in
    let I = c.loop-prepared.invariant in
    let some = c.requires.prepared in
    let w = c.args.seat.member.number in
    let rest = c.next.new.self.rest.items in
    let notes = logged_by c.loop-prepared.seat.member in
    let goes = subst (λ (ps : List Prepared). GoesOn r.sizes w some.0 ps notes)
    c.in-Some.ensures.steps.0 (I.goes some.0 some.1) in
    let next = next_of r.sizes w some.0 c.in-Some.prepared rest notes goes in
    (next.line.number, next.line.mutation, next.prepared)

pub loop-prepared-preserved : goal.loop-prepared-preserved
loop-prepared-preserved g c =
    let r = c.args.run.now in
    let l = c.loop-prepared in let I = l.invariant in let w = c.args.seat.member.number in
    let steps = c.in-Some.ensures.steps in
    let rest = c.next.new.self.rest.items in
    let before = (view_of l.seat.member).trail in
    let after = (view_of c.commit_next-next.result.0.member).trail in
    let done = c.commit_next-next.ensures in
    let none = c.in-None-fault.is in
    let one = c.next-in-loop-prepared in
    let counts = l.counts.rest.items in
    let now = one.new.self.rest.items in
    let taken = takes_next counts now l.counts.rest.len one.new.self.rest.len one.result I.left
    one.ensures.items one.ensures.cases in
    let line = next_line r.sizes w r.flush_at c.in-Some.prepared rest counts now
    one.result l.tally before
    (subst (λ (ps : List Prepared). GoesCounted r.sizes w r.flush_at ps counts l.tally
    before) steps.0 I.counted) taken.0 in
    record {
      same = (done.same.0, done.same.1 ∙ I.same.1);
      goes = λ lines prepared.
          logged r.sizes w lines c.in-Some.prepared rest before after
          (subst (λ (k : ℕ). AddsWrite k c.in-Some.prepared before after) I.same.1
          (done.logged none))
          (subst (λ (ps : List Prepared). GoesOn r.sizes w lines ps
          (logged_by l.seat.member)) steps.0 (I.goes lines prepared));
      sealed = λ batch. done.sealed batch (I.sealed batch) none;
      timed = λ period periodic.
          one_timed (g.C.Clock.tells r.clock.now) r.syncing.mode
          r.syncing.since_ms before after l.last_ms c.commit_next-next.result.1
          (I.timed period periodic) (done.timed period periodic none);
      counted = record {
        left = line.others;
        prepared = line.prepared_others;
        counted = line.counted_others;
        limit = done.limit ∙ I.counted.limit;
        tallies = subst (λ (k : ℕ). MayTally k c.commit_next-next.result.2 after) I.same.1
            (done.tallies none line.line line.prepared
            (subst (λ (f : Option ℕ). IsCountedFor f line.line.mutation one.result)
            (sym I.counted.limit) line.counted)
            (subst (λ (k : ℕ). MayTally k l.tally before) (sym I.same.1) I.counted.tallies));
      };
      issued = let short = ap length steps.0 in let old = I.issued in let few = done.issued in
          omega (arith, short, old, few);
      left = taken.1;
      count = let short = ap length steps.0 in omega (arith, short, steps.1, I.count);
    }

pub commit_next-next-requires-clause-limit : goal.commit_next-next-requires-clause-limit
commit_next-next-requires-clause-limit g c = c.loop-prepared.invariant.counted.limit

-- ---- one was refused

pub returns-in-Some-fault-clause-committed : goal.returns-in-Some-fault-clause-committed
returns-in-Some-fault-clause-committed g c =
    let r = c.args.run.now in
    let l = c.loop-prepared in let I = l.invariant in let w = c.args.seat.member.number in
    let next = c.commit_next-next in let done = next.ensures in
    let before = (view_of l.seat.member).trail in
    let after = (view_of next.result.0.member).trail in
    let rest = c.next.new.self.rest.items in
    let steps = c.in-Some.ensures.steps.0 in
    record {
      same = (done.same.0, done.same.1 ∙ I.same.1);
      logs = λ lines prepared.
          stopped_with r.sizes w lines c.in-Some.prepared rest before after c.in-Some-fault.fault
          (subst (λ (k : ℕ). MayAddWrite k c.in-Some.prepared before after) I.same.1 done.may)
          (subst (λ (ps : List Prepared). GoesOn r.sizes w lines ps (logged_by l.seat.member))
          steps (I.goes lines prepared));
      why = subst (λ (f : Option WriteFault). KnowsWhy r.path.now.table.size f next.result.0)
          c.in-Some-fault.is done.why;
      issued = let short = ap length steps in let old = I.issued in let few = done.issued in
          let low = c.requires.few in omega (arith, short, old, few, low);
      waited = λ batch. done.waited batch (I.sealed batch);
      timed = λ period periodic none. absurd (none-some c.in-Some-fault.fault (sym none));
      paid =
          let one = c.next-in-loop-prepared in
          let counts = l.counts.rest.items in
          let now = one.new.self.rest.items in
          let taken = takes_next counts now l.counts.rest.len one.new.self.rest.len one.result
          I.left one.ensures.items one.ensures.cases in
          let line = next_line r.sizes w r.flush_at c.in-Some.prepared rest counts now one.result
          l.tally before
          (subst (λ (ps : List Prepared). GoesCounted r.sizes w r.flush_at ps counts l.tally
          before) steps I.counted) taken.0 in
          subst (λ (f : Option ℕ). ArePaid f w after) I.counted.limit
          (subst (λ (k : ℕ). ArePaid (limit_of l.tally) k after) I.same.1
          (done.paid line.line line.prepared
          (subst (λ (f : Option ℕ). IsCountedFor f line.line.mutation one.result)
          (sym I.counted.limit) line.counted)
          (subst (λ (k : ℕ). MayTally k l.tally before) (sym I.same.1) I.counted.tallies)));
    }

pub returns-in-Some-fault-clause-sealed : goal.returns-in-Some-fault-clause-sealed
returns-in-Some-fault-clause-sealed g c = λ batch none.
    absurd (none-some c.in-Some-fault.fault (sym none))

pub returns-in-Some-fault-clause-limit : goal.returns-in-Some-fault-clause-limit
returns-in-Some-fault-clause-limit g c =
    c.commit_next-next.ensures.limit ∙ c.loop-prepared.invariant.counted.limit

pub returns-in-Some-fault-clause-tallies : goal.returns-in-Some-fault-clause-tallies
returns-in-Some-fault-clause-tallies g c = λ none.
    absurd (none-some c.in-Some-fault.fault (sym none))

-- ---- none was

pub returns-clause-committed : goal.returns-clause-committed
returns-clause-committed g c =
    let r = c.args.run.now in
    let l = c.loop-prepared in let I = l.invariant in let w = c.args.seat.member.number in
    let trail = (view_of l.seat.member).trail in
    let rest = l.prepared-iterator.rest.items in
    record {
      same = I.same;
      logs = λ lines prepared.
          ends r.sizes w lines rest (logged_by l.seat.member) None (I.goes lines prepared)
          (λ same. nil_from_length rest (omega (arith, c.in-None.ensures.steps.0, I.count)));
      why = tt;
      issued = let old = I.issued in let low = c.requires.few in omega (arith, old, low);
      waited = λ batch. all_earlier trail (I.sealed batch);
      timed = λ period periodic none. (l.last_ms, I.timed period periodic);
      paid = subst (λ (f : Option ℕ). ArePaid f w trail) I.counted.limit
          (may_paid w l.tally trail I.counted.tallies);
    }

pub returns-clause-sealed : goal.returns-clause-sealed
returns-clause-sealed g c = λ batch none. c.loop-prepared.invariant.sealed batch

pub returns-clause-limit : goal.returns-clause-limit
returns-clause-limit g c = c.loop-prepared.invariant.counted.limit

pub returns-clause-tallies : goal.returns-clause-tallies
returns-clause-tallies g c = λ none. c.loop-prepared.invariant.counted.tallies

-- ---- few barriers are issued

pub commit_next-next-requires-clause-spends : goal.commit_next-next-requires-clause-spends
commit_next-next-requires-clause-spends g c =
    let short = ap length c.in-Some.ensures.steps.0 in let old = c.loop-prepared.invariant.issued in
    let low = c.requires.few in omega (arith, short, old, low)

pub returns-in-Some-fault-clause-issued : goal.returns-in-Some-fault-clause-issued
returns-in-Some-fault-clause-issued g c =
    let short = ap length c.in-Some.ensures.steps.0 in let old = c.loop-prepared.invariant.issued in
    let few = c.commit_next-next.ensures.issued in omega (arith, short, old, few)

pub returns-clause-issued : goal.returns-clause-issued
returns-clause-issued g c = let old = c.loop-prepared.invariant.issued in omega (arith, old)
