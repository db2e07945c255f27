use Rattle.std.proofs.Common.{sym, ◌∙◌, subst}
use Rattle.path_table.specs.Members.{view_of}
use Rattle.clog_shares.specs.Crews.{KnowsWhy}
use Rattle.clog_shares.specs.declared.fault.WriteFault.{WriteFault}
use Rattle.std.specs.Prelude.{Option}
use Rattle.clog_shares.proofs.Committing.{sync_why}
use Rattle.clog_shares.proofs.Opening.{sync_opens}
use Rattle.clog_shares.proofs.Timing.{knows_synced, seals_last}
use Rattle.clog_shares.proofs.syncing.sync_seat.Goals as goal

pub returns-clause-keeps : goal.returns-clause-keeps
returns-clause-keeps g c =
    let syncs = c.sync-seat.ensures.syncs in
    let steps = syncs.answers.steps in
    (c.sync-seat.ensures.same, syncs.list, record { newer = steps.steps; is = steps.trail })

pub returns-clause-why : goal.returns-clause-why
returns-clause-why g c =
    let size = c.args.path.now.table.size in
    subst (λ (f : Option WriteFault). KnowsWhy size f c.sync-seat.result.0)
    (sym c.refusal_of.ensures.is)
    (sync_why size c.args.seat.member.number (view_of c.args.seat.member) c.sync-seat.result.0
    c.sync-seat.result.1 c.sync-seat.ensures.syncs.answers)

pub returns-clause-synced : goal.returns-clause-synced
returns-clause-synced g c = λ none.
    let size = c.args.path.now.table.size in
    knows_synced c.args.seat.member.number size.at_open (view_of c.args.seat.member)
    c.sync-seat.result.0 c.sync-seat.result.1 c.sync-seat.ensures.syncs
    (sym c.refusal_of.ensures.is ∙ none)

pub returns-clause-seals : goal.returns-clause-seals
returns-clause-seals g c = λ none.
    let size = c.args.path.now.table.size in
    seals_last c.args.seat.member.number size.at_open c.args.seat c.sync-seat.result.0
    c.sync-seat.result.1 c.sync-seat.ensures.syncs (sym c.refusal_of.ensures.is ∙ none)

pub returns-clause-opened : goal.returns-clause-opened
returns-clause-opened g c =
    sync_opens c.args.seat.member.number c.args.path.now.table.size.at_open
    (view_of c.args.seat.member) (view_of c.sync-seat.result.0.member) c.sync-seat.result.1
    c.sync-seat.ensures.syncs
