use Rattle.std.proofs.Common.{◌≡◌, ℕ, true, Option, Some, inr, length, refl, sym, ◌∙◌, subst, arith}
use Rattle.std.specs.Prelude.{IsSome}
use Rattle.std.proofs.lemmas.Option.{none-some}
use Rattle.path_table.specs.Members.{view_of}
use Rattle.write_path.proofs.Growing.{no_shorter}
use Rattle.clog_shares.specs.declared.fault.WriteFault.{WriteFault}
use Rattle.clog_shares.specs.Crews.{KnowsWhy}
use Rattle.clog_shares.specs.Tallied.{ArePaid}
use Rattle.clog_shares.specs.Tallies.{MayTally, limit_of}
use Rattle.clog_shares.proofs.Committing.{adds_on, all_earlier, earlier_on, may_on, sealed_on}
use Rattle.clog_shares.proofs.Paying.{paid_with}
use Rattle.clog_shares.proofs.Tallying.{may_paid, one_more}
use Rattle.clog_shares.proofs.Timing.{times_on}
use Rattle.clog_shares.proofs.TriedFlushes.{may_since}
use Rattle.clog_shares.proofs.worker.commit_next.Goals as goal

-- ---- a writer has had a fault

pub returns-then-is_set-clause-same : goal.returns-then-is_set-clause-same
returns-then-is_set-clause-same g c = (c.requires.table, refl)

pub returns-then-is_set-clause-may : goal.returns-then-is_set-clause-may
returns-then-is_set-clause-may g c = inr refl

pub returns-then-is_set-clause-why : goal.returns-then-is_set-clause-why
returns-then-is_set-clause-why g c =
    subst (λ (f : WriteFault). KnowsWhy c.args.run.now.path.now.table.size (Some f) c.args.seat)
    (sym c.stopped_for_another.ensures) tt

pub returns-then-is_set-clause-waited : goal.returns-then-is_set-clause-waited
returns-then-is_set-clause-waited g c = λ batch all.
    all_earlier (view_of c.args.seat.member).trail all

pub returns-then-is_set-clause-paid : goal.returns-then-is_set-clause-paid
returns-then-is_set-clause-paid g c = λ line prepared counted all.
    may_paid c.args.seat.member.number c.args.tally (view_of c.args.seat.member).trail all

-- ---- the write is committed, and tables are flushed behind it

pub flush_due-seat-requires-clause-files : goal.flush_due-seat-requires-clause-files
flush_due-seat-requires-clause-files g c =
    let r = c.args.run.now in
    subst (λ (f : Option ℕ). IsSome f → r.path.now.table.size.files ≡ true)
    (sym (c.tally_with-tally.ensures.limit ∙ c.requires.limit)) r.files

pub flush_due-seat-requires-clause-tables : goal.flush_due-seat-requires-clause-tables
flush_due-seat-requires-clause-tables g c =
    let r = c.args.run.now in
    sym r.sized.tables ∙ r.tables

pub returns-in-None-clause-same : goal.returns-in-None-clause-same
returns-in-None-clause-same g c =
    let keeps = c.flush_due-seat.ensures.keeps in
    (keeps.0.0, keeps.0.1 ∙ c.commit_one-seat.ensures.same.1)

pub returns-in-None-clause-logged : goal.returns-in-None-clause-logged
returns-in-None-clause-logged g c = λ none.
    adds_on c.args.seat.member.number c.args.prepared (view_of c.args.seat.member).trail
    (view_of c.commit_one-seat.result.0.member).trail
    (view_of c.flush_due-seat.result.0.member).trail c.flush_due-seat.ensures.keeps.1
    (c.commit_one-seat.ensures.logged c.in-None.is)

pub returns-in-None-clause-may : goal.returns-in-None-clause-may
returns-in-None-clause-may g c =
    may_on c.args.seat.member.number c.args.prepared (view_of c.args.seat.member).trail
    (view_of c.commit_one-seat.result.0.member).trail
    (view_of c.flush_due-seat.result.0.member).trail c.flush_due-seat.ensures.keeps.1
    c.commit_one-seat.ensures.may

pub returns-in-None-clause-sealed : goal.returns-in-None-clause-sealed
returns-in-None-clause-sealed g c = λ batch all none.
    let keeps = c.flush_due-seat.ensures.keeps in
    sealed_on (view_of c.commit_one-seat.result.0.member).trail
    (view_of c.flush_due-seat.result.0.member).trail keeps.1 keeps.2
    (c.commit_one-seat.ensures.sealed batch all c.in-None.is)

pub returns-in-None-clause-waited : goal.returns-in-None-clause-waited
returns-in-None-clause-waited g c = λ batch all.
    let keeps = c.flush_due-seat.ensures.keeps in
    earlier_on (view_of c.commit_one-seat.result.0.member).trail
    (view_of c.flush_due-seat.result.0.member).trail keeps.1 keeps.2
    (c.commit_one-seat.ensures.waited batch all)

pub returns-in-None-clause-timed : goal.returns-in-None-clause-timed
returns-in-None-clause-timed g c = λ period periodic none.
    let r = c.args.run.now in
    let keeps = c.flush_due-seat.ensures.keeps in
    times_on (g.C.Clock.tells r.clock.now) r.syncing.mode c.args.last_ms
    (view_of c.args.seat.member).trail (view_of c.commit_one-seat.result.0.member).trail
    (view_of c.flush_due-seat.result.0.member).trail c.args.last_ms c.commit_one-seat.result.1
    keeps.1 keeps.2 (c.commit_one-seat.ensures.timed period periodic c.in-None.is)

pub returns-in-None-clause-limit : goal.returns-in-None-clause-limit
returns-in-None-clause-limit g c =
    c.flush_due-seat.ensures.limit ∙ c.tally_with-tally.ensures.limit

pub returns-in-None-clause-tallies : goal.returns-in-None-clause-tallies
returns-in-None-clause-tallies g c = λ none line prepared counted all.
    let one = c.commit_one-seat in
    let w = c.args.seat.member.number in
    let now = c.tally_with-tally.result in
    let then = (view_of one.result.0.member).trail in
    subst (λ (k : ℕ). MayTally k c.flush_due-seat.result.1
    (view_of c.flush_due-seat.result.0.member).trail) one.ensures.same.1
    (c.flush_due-seat.ensures.tallies none
    (subst (λ (k : ℕ). MayTally k now then) (sym one.ensures.same.1)
    (one_more w c.args.run.now.sizes line c.args.prepared (view_of c.args.seat.member).trail then
    (one.ensures.logged c.in-None.is) one.ensures.grown one.ensures.opened prepared c.args.tally
    c.args.counts now c.tally_with-tally.ensures.limit c.tally_with-tally.ensures.adds counted
    all)))

pub returns-in-None-clause-paid : goal.returns-in-None-clause-paid
returns-in-None-clause-paid g c = λ line prepared counted all.
    let one = c.commit_one-seat in
    let w = c.args.seat.member.number in
    let now = c.tally_with-tally.result in
    let then = (view_of one.result.0.member).trail in
    let after = (view_of c.flush_due-seat.result.0.member).trail in
    subst (λ (f : Option ℕ). ArePaid f w after) c.tally_with-tally.ensures.limit
    (subst (λ (k : ℕ). ArePaid (limit_of now) k after) one.ensures.same.1
    (c.flush_due-seat.ensures.paid
    (subst (λ (k : ℕ). MayTally k now then) (sym one.ensures.same.1)
    (one_more w c.args.run.now.sizes line c.args.prepared (view_of c.args.seat.member).trail then
    (one.ensures.logged c.in-None.is) one.ensures.grown one.ensures.opened prepared c.args.tally
    c.args.counts now c.tally_with-tally.ensures.limit c.tally_with-tally.ensures.adds counted
    all))))

pub returns-in-None-clause-tried : goal.returns-in-None-clause-tried
returns-in-None-clause-tried g c = λ none.
    let before = (view_of c.args.seat.member).trail in
    let then = (view_of c.commit_one-seat.result.0.member).trail in
    may_since (length before) (length then) c.flush_due-seat.result.1
    (view_of c.flush_due-seat.result.0.member).trail
    (no_shorter before then c.commit_one-seat.ensures.grown) (c.flush_due-seat.ensures.tried none)

-- ---- it was refused

pub returns-in-Some-clause-tallies : goal.returns-in-Some-clause-tallies
returns-in-Some-clause-tallies g c = λ none line prepared counted all.
    absurd (none-some c.in-Some.fault (sym none))

pub returns-in-Some-clause-paid : goal.returns-in-Some-clause-paid
returns-in-Some-clause-paid g c = λ line prepared counted all.
    let w = c.args.seat.member.number in
    let before = (view_of c.args.seat.member).trail in
    paid_with (limit_of c.args.tally) w c.args.run.now.sizes line c.args.prepared before
    (view_of c.commit_one-seat.result.0.member).trail c.commit_one-seat.ensures.may
    c.commit_one-seat.ensures.opened prepared (may_paid w c.args.tally before all)

pub returns-in-Some-clause-tried : goal.returns-in-Some-clause-tried
returns-in-Some-clause-tried g c = λ none. absurd (none-some c.in-Some.fault (sym none))

-- ---- few barriers are issued

pub flush_due-seat-requires-clause-spends : goal.flush_due-seat-requires-clause-spends
flush_due-seat-requires-clause-spends g c = let few = c.commit_one-seat.ensures.issued in
    let low = c.requires.spends in omega (arith, few, low)
