use Rattle.std.proofs.Common.{ℕ, Some, refl, sym, ◌∙◌, subst, arith}
use Rattle.clog_spec.specs.Sizes.{most_tables}
use Rattle.path_table.specs.Members.{view_of}
use Rattle.clog_shares.specs.declared.fault.WriteFault.{WriteFault}
use Rattle.clog_shares.specs.Crews.{KnowsWhy}
use Rattle.clog_shares.specs.Tallied.{ArePaid}
use Rattle.clog_shares.proofs.Barriers.{few_below}
use Rattle.clog_shares.proofs.Keeping.{list_first, list_on}
use Rattle.clog_shares.proofs.Tallying.{all_flushed, all_paid, paid_then, tallies_then}
use Rattle.clog_shares.proofs.finishing.flush_until_none.Goals as goal

pub loop-init : goal.loop-init
loop-init g c = let t = c.args.path.now.table in record {
  next = tt;
  finite = tt;
  keeps = list_first t.table.shared.table_id t.size c.args.seat.member c.requires.table;
  most = refl;
  tallies = λ all. all;
  spends = omega arith;
}

pub loop-preserved : goal.loop-preserved
loop-preserved g c =
    let t = c.args.path.now.table in let l = c.loop in let I = l.invariant in
    let now = c.flush_tables-next.result in let done = c.flush_tables-next.ensures in record {
      next = tt;
      finite = tt;
      keeps = list_on t.table.shared.table_id t.size c.args.seat.member l.seat.member now.0.member
          I.keeps done.keeps;
      most = done.most ∙ I.most;
      tallies = tallies_then t.table.shared.table_id t.size c.args.seat l.seat c.args.tally l.tally
          (view_of now.0.member).trail now.1 I.keeps I.tallies (done.tallies c.in-None-fault.is);
      spends = let most = I.most in let some = c.requires.some in let old = I.spends in
          let more = done.spends c.in-None-fault.is (omega (arith, most, some)) in
          omega (arith, old, more);
    }

pub returns-in-Some-fault-clause-keeps : goal.returns-in-Some-fault-clause-keeps
returns-in-Some-fault-clause-keeps g c =
    let t = c.args.path.now.table in let l = c.loop in
    list_on t.table.shared.table_id t.size c.args.seat.member l.seat.member
    c.flush_tables-next.result.0.member l.invariant.keeps c.flush_tables-next.ensures.keeps

pub returns-in-Some-fault-clause-paid : goal.returns-in-Some-fault-clause-paid
returns-in-Some-fault-clause-paid g c =
    let t = c.args.path.now.table in let l = c.loop in let I = l.invariant in
    paid_then t.table.shared.table_id t.size c.args.seat l.seat c.args.tally l.tally
    (view_of c.flush_tables-next.result.0.member).trail I.keeps I.most I.tallies
    c.flush_tables-next.ensures.paid

-- ---- no flush is due

pub returns-then-not-is_any_due-clause-keeps : goal.returns-then-not-is_any_due-clause-keeps
returns-then-not-is_any_due-clause-keeps g c = c.loop.invariant.keeps

pub returns-then-not-is_any_due-clause-paid : goal.returns-then-not-is_any_due-clause-paid
returns-then-not-is_any_due-clause-paid g c = λ all.
    let l = c.loop in let I = l.invariant in let w = c.args.seat.member.number in
    let trail = (view_of l.seat.member).trail in
    subst (λ (k : ℕ). ArePaid (Some k) w trail) I.most
    (all_paid w l.tally trail (I.tallies all))

pub returns-then-not-is_any_due-clause-flushed : goal.returns-then-not-is_any_due-clause-flushed
returns-then-not-is_any_due-clause-flushed g c = λ none all.
    let l = c.loop in let I = l.invariant in
    all_flushed c.args.seat.member.number l.tally c.args.tally.most l.seat I.keeps.0.1 I.most
    (I.tallies all) (c.is_any_due.ensures c.if-not-is_any_due.true)

-- ---- a writer has had a fault

pub returns-then-is_set-clause-keeps : goal.returns-then-is_set-clause-keeps
returns-then-is_set-clause-keeps g c = c.loop.invariant.keeps

pub returns-then-is_set-clause-why : goal.returns-then-is_set-clause-why
returns-then-is_set-clause-why g c =
    subst (λ (f : WriteFault). KnowsWhy c.args.path.now.table.size (Some f) c.loop.seat)
    (sym c.stopped_for_another.ensures) tt

pub returns-then-is_set-clause-paid : goal.returns-then-is_set-clause-paid
returns-then-is_set-clause-paid g c = λ all.
    let l = c.loop in let I = l.invariant in let w = c.args.seat.member.number in
    let trail = (view_of l.seat.member).trail in
    subst (λ (k : ℕ). ArePaid (Some k) w trail) I.most
    (all_paid w l.tally trail (I.tallies all))

-- ---- few barriers are issued

pub flush_tables-next-requires-clause-spends : goal.flush_tables-next-requires-clause-spends
flush_tables-next-requires-clause-spends g c = let spent = c.loop.invariant.spends in
    let few = few_below most_tables c.args.tally in let low = c.requires.spends in
    omega (arith, spent, few, low)

pub returns-in-Some-fault-clause-issued : goal.returns-in-Some-fault-clause-issued
returns-in-Some-fault-clause-issued g c = let spent = c.loop.invariant.spends in
    let few = few_below most_tables c.args.tally in
    let issued = c.flush_tables-next.ensures.issued in omega (arith, spent, few, issued)

pub returns-then-not-is_any_due-clause-issued : goal.returns-then-not-is_any_due-clause-issued
returns-then-not-is_any_due-clause-issued g c = let spent = c.loop.invariant.spends in
    let few = few_below most_tables c.args.tally in omega (arith, spent, few)

pub returns-then-is_set-clause-issued : goal.returns-then-is_set-clause-issued
returns-then-is_set-clause-issued g c = let spent = c.loop.invariant.spends in
    let few = few_below most_tables c.args.tally in omega (arith, spent, few)
