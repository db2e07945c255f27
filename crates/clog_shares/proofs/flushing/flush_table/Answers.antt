use Rattle.std.proofs.Common.{ℕ, List, Option, get_or, sym, ap, ◌∙◌, subst, arith}
use Rattle.path_table.specs.Members.{view_of}
use Rattle.clog_shares.specs.declared.fault.WriteFault.{WriteFault}
use Rattle.clog_shares.specs.Crews.{KnowsWhy}
use Rattle.clog_shares.proofs.FlushTold.{flush_why, tried}
use Rattle.clog_shares.proofs.Tallying.{all_paid, behind_any, behind_flush, left_alone, set_none}
use Rattle.clog_shares.proofs.Barriers.{few_by, spends}
use Rattle.clog_shares.proofs.flushing.flush_table.Goals as goal

-- ---- no flush is due

pub returns-then-not-is_due-clause-paid : goal.returns-then-not-is_due-clause-paid
returns-then-not-is_due-clause-paid g c = λ all.
    all_paid c.args.seat.member.number c.args.tally (view_of c.args.seat.member).trail all

-- ---- one is

pub returns-clause-why : goal.returns-clause-why
returns-clause-why g c =
    let size = c.args.path.now.table.size in
    let seat = c.flush-seat.result.0 in
    subst (λ (f : Option WriteFault). KnowsWhy size f seat) (sym c.refusal_by.ensures)
    (flush_why size c.args.seat.member.number c.args.table.0 (view_of c.args.seat.member) seat
    c.flush-seat.result.1 c.requires.table.1 c.flush-seat.ensures.flushes)

pub returns-clause-tallies : goal.returns-clause-tallies
returns-clause-tallies g c = λ none all.
    behind_flush c.args.seat.member.number c.args.table.0 (view_of c.args.seat.member)
    (view_of c.flush-seat.result.0.member) c.flush-seat.result.1 c.args.tally
    c.flush-seat.ensures.flushes c.requires.there (c.is_due.ensures.0 c.if-not-is_due.false) all
    c.tally_behind.result c.tally_behind.ensures.most (sym c.refusal_by.ensures ∙ none)
    c.tally_behind.ensures.finished c.tally_behind.ensures.other

pub returns-clause-paid : goal.returns-clause-paid
returns-clause-paid g c = λ all.
    behind_any c.args.seat.member.number c.args.table.0 (view_of c.args.seat.member)
    (view_of c.flush-seat.result.0.member) c.flush-seat.result.1 c.args.tally
    c.flush-seat.ensures.flushes c.requires.there (c.is_due.ensures.0 c.if-not-is_due.false) all

pub returns-clause-tried : goal.returns-clause-tried
returns-clause-tried g c = λ none some.
    let t = c.args.table.0 in
    let now = c.tally_behind.result in
    tried c.args.seat.member.number t (view_of c.args.seat.member)
    (view_of c.flush-seat.result.0.member) c.flush-seat.result.1 c.args.tally now
    c.flush-seat.ensures.flushes (sym c.refusal_by.ensures ∙ none) c.tally_behind.ensures.most some
    (λ done. ap (λ (l : List ℕ). get_or l t 0) (c.tally_behind.ensures.finished done)
    ∙ set_none c.args.tally.counts t)

pub returns-clause-others : goal.returns-clause-others
returns-clause-others g c = λ t apart.
    left_alone c.args.table.0 t c.args.tally c.tally_behind.result c.flush-seat.result.1 apart
    c.tally_behind.ensures.finished c.tally_behind.ensures.other

pub returns-clause-issued : goal.returns-clause-issued
returns-clause-issued g c = let few = few_by c.flush-seat.result.1 in
    let issued = c.flush-seat.ensures.issued in omega (arith, few, issued)

pub returns-clause-spends : goal.returns-clause-spends
returns-clause-spends g c = λ none some.
    spends c.args.table.0 _ _ c.flush-seat.result.1 c.args.tally c.tally_behind.result
    c.flush-seat.ensures.issued (c.is_due.ensures.0 c.if-not-is_due.false) some
    c.tally_behind.ensures.most (sym c.refusal_by.ensures ∙ none) c.tally_behind.ensures.finished
    c.tally_behind.ensures.other

pub returns-then-not-is_due-clause-spends : goal.returns-then-not-is_due-clause-spends
returns-then-not-is_due-clause-spends g c = λ none some. omega arith
