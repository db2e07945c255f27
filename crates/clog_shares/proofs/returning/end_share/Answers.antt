use Rattle.std.proofs.Common.{inl, inr, List, Option, reverse, sym, ap, ◌∙◌, subst}
use Rattle.std.proofs.lemmas.Option.{same_Some}
use Rattle.path_core.specs.declared.note.EntryNote.{EntryNote}
use Rattle.path_table.specs.declared.trying.PathSeat.{PathSeat}
use Rattle.path_table.specs.Members.{view_of}
use Rattle.clog_shares.specs.declared.fault.WriteFault.{WriteFault}
use Rattle.clog_shares.specs.Crews.{HasIssuedFew, KnowsWhy}
use Rattle.clog_shares.specs.Shares.{logged_by}
use Rattle.clog_shares.specs.Tallied.{HasFlushedAll, HasOpened}
use Rattle.clog_shares.proofs.Committing.{earlier_on, logs_on, still_why, sync_why}
use Rattle.clog_shares.proofs.Opening.{sync_opens}
use Rattle.clog_shares.proofs.Paying.{still_opened}
use Rattle.clog_shares.proofs.Tallying.{flushed_on}
use Rattle.clog_shares.proofs.Timing.{knows_synced}
use Rattle.clog_shares.proofs.returning.end_share.Goals as goal

pub returns-clause-ends : goal.returns-clause-ends
returns-clause-ends g c = λ flush number lines logged.
    let seat = c.in-Some.seat in let after = c.sync-seat.result.0 in
    let same = same_Some logged.seat seat (sym logged.has ∙ c.in-Some.is) in
    let syncs = c.sync-seat.ensures.syncs in
    let own = c.sync-seat.ensures.same in
    let opens_none = sync_opens seat.member.number c.args.path.now.table.size.at_open
    (view_of seat.member) (view_of after.member) c.sync-seat.result.1 syncs in
    let none_of = c.first_of.ensures.none in record {
      of_path = own.0;
      number_is = own.1 ∙ (ap (λ (s : PathSeat g.row.K.Denot). s.member.number) (sym same)
          ∙ logged.number_is);
      logs = logs_on number lines (logged_by logged.seat.member) (logged_by after.member)
          c.args.worker.fault c.first_of.result
          (ap (λ (l : List EntryNote). reverse l) syncs.list
          ∙ ap (λ (s : PathSeat g.row.K.Denot). logged_by s.member) (sym same))
          (λ none. (none_of none).0) logged.logs;
      synced = λ none. knows_synced seat.member.number c.args.path.now.table.size.at_open
          (view_of seat.member) after c.sync-seat.result.1 syncs
          (sym c.refusal_of.ensures.is ∙ (none_of none).1);
      flushed = λ none. flushed_on flush seat after own.1 syncs.list
          (record { newer = syncs.answers.steps.steps; is = syncs.answers.steps.trail }) opens_none
          (subst (λ (s : PathSeat g.row.K.Denot). HasFlushedAll flush s) same
          (logged.flushed (none_of none).0));
      opened = still_opened flush lines seat after opens_none
          (subst (λ (s : PathSeat g.row.K.Denot). HasOpened flush lines s) same logged.opened);
    }

pub returns-clause-why : goal.returns-clause-why
returns-clause-why g c = λ flush number lines logged.
    let size = c.args.path.now.table.size in
    let same = same_Some logged.seat c.in-Some.seat (sym logged.has ∙ c.in-Some.is) in
    let answers = c.sync-seat.ensures.syncs.answers in
    let after = c.sync-seat.result.0 in
    let fault = c.args.worker.fault in elim c.first_of.ensures.one [
      | inl first ↦ subst (λ (f : Option WriteFault). KnowsWhy size f after) (sym first)
          (still_why size fault c.in-Some.seat after
          (record { newer = answers.steps.steps; is = answers.steps.trail })
          (subst (λ (s : PathSeat g.row.K.Denot). KnowsWhy size fault s) same logged.why))
      | inr other ↦ subst (λ (f : Option WriteFault). KnowsWhy size f after)
          (sym c.refusal_of.ensures.is ∙ sym other)
          (sync_why size c.in-Some.seat.member.number (view_of c.in-Some.seat.member) after
          c.sync-seat.result.1 answers)
    ]

pub returns-clause-waited : goal.returns-clause-waited
returns-clause-waited g c = λ waits.
    let syncs = c.sync-seat.ensures.syncs in
    earlier_on (view_of c.in-Some.seat.member).trail (view_of c.sync-seat.result.0.member).trail
    syncs.list
    (record { newer = syncs.answers.steps.steps; is = syncs.answers.steps.trail })
    (waits c.in-Some.seat c.in-Some.is)

pub returns-clause-cause : goal.returns-clause-cause
returns-clause-cause g c = λ memory. (c.first_of.ensures.memory memory).0

pub sync-seat-requires-clause-spends : goal.sync-seat-requires-clause-spends
sync-seat-requires-clause-spends g c = let logged = c.requires.3 in
    subst (λ (s : PathSeat g.row.K.Denot). HasIssuedFew s)
    (same_Some logged.seat c.in-Some.seat (sym logged.has ∙ c.in-Some.is)) logged.issued
