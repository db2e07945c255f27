use Rattle.std.proofs.Common.{ℕ, Some, length, refl, sym, ◌∙◌, subst, arith}
use Rattle.std.proofs.lemmas.Option.{none-some}
use Rattle.clog_spec.specs.Sizes.{most_tables}
use Rattle.path_table.specs.Members.{view_of}
use Rattle.write_path.proofs.Growing.{no_shorter}
use Rattle.clog_shares.specs.declared.tally.UpdateTally.{UpdateTally}
use Rattle.clog_shares.specs.Tallied.{ArePaid}
use Rattle.clog_shares.specs.Tallies.{IsNotDue}
use Rattle.clog_shares.proofs.Barriers.{one_changed}
use Rattle.clog_shares.proofs.Keeping.{list_first, list_on}
use Rattle.clog_shares.proofs.Tallying.{all_paid, paid_then, tallies_then}
use Rattle.clog_shares.proofs.TriedFlushes.{one_tried}
use Rattle.clog_shares.proofs.flushing.flush_tables.Goals as goal

pub loop-number-init : goal.loop-number-init
loop-number-init g c = let t = c.args.path.now.table in record {
  keeps = list_first t.table.shared.table_id t.size c.args.seat.member c.requires.table;
  most = refl;
  tallies = λ all. all;
  idle = λ none. (refl, refl);
  tried = λ some t low. absurd (omega (arith, low));
  issued = omega arith;
  spends = λ some. omega arith;
}

pub flush_table-next-requires-clause-table : goal.flush_table-next-requires-clause-table
flush_table-next-requires-clause-table g c = c.loop-number.invariant.keeps.0.0

pub loop-number-preserved : goal.loop-number-preserved
loop-number-preserved g c =
    let t = c.args.path.now.table in let l = c.loop-number in let I = l.invariant in
    let now = c.flush_table-next.result in let done = c.flush_table-next.ensures in record {
      keeps = list_on t.table.shared.table_id t.size c.args.seat.member l.seat.member now.0.member
          I.keeps done.keeps;
      most = done.most ∙ I.most;
      tallies = tallies_then t.table.shared.table_id t.size c.args.seat l.seat c.args.tally l.tally
          (view_of now.0.member).trail now.1 I.keeps I.tallies
          (done.tallies c.in-None.is);
      idle = λ none.
          let old = I.idle none in
          let step = done.idle
          (subst (λ (x : UpdateTally). IsNotDue x l.number) (sym old.1)
          (none l.number c.loop-number-test.true)) in (step.0 ∙ old.0, step.1 ∙ old.1);
      tried = λ some.
          let most = I.most in
          one_tried (length (view_of c.args.seat.member).trail) l.number l.tally now.1
          (view_of l.seat.member).trail (view_of now.0.member).trail done.most done.others
          done.keeps.2
          (no_shorter (view_of c.args.seat.member).trail (view_of l.seat.member).trail I.keeps.2)
          (I.tried some) (done.tried c.in-None.is (omega (arith, some, most)));
      issued = let few = done.issued in let old = I.issued in omega (arith, few, old);
      spends = λ some.
          let most = I.most in
          let old = I.spends some in
          let one = done.spends c.in-None.is (omega (arith, some, most)) in
          let all = one_changed l.number l.tally now.1 done.most done.others most_tables
          c.loop-number-test.true in omega (arith, old, one, all);
    }

pub returns-clause-tried : goal.returns-clause-tried
returns-clause-tried g c = λ none some t low.
    let I = c.loop-number.invariant in
    let most = I.most in
    let all = c.loop-number-test.false in
    I.tried (omega (arith, some, most)) t (omega (arith, low, all))

pub returns-in-Some-clause-idle : goal.returns-in-Some-clause-idle
returns-in-Some-clause-idle g c = λ none.
    let l = c.loop-number in
    let old = l.invariant.idle none in
    let step = c.flush_table-next.ensures.idle
    (subst (λ (x : UpdateTally). IsNotDue x l.number) (sym old.1)
    (none l.number c.loop-number-test.true)) in (step.0 ∙ old.0, step.1 ∙ old.1)

pub returns-in-Some-clause-tried : goal.returns-in-Some-clause-tried
returns-in-Some-clause-tried g c = λ none. absurd (none-some c.in-Some.fault (sym none))

pub returns-in-Some-clause-keeps : goal.returns-in-Some-clause-keeps
returns-in-Some-clause-keeps g c =
    let t = c.args.path.now.table in let l = c.loop-number in
    list_on t.table.shared.table_id t.size c.args.seat.member l.seat.member
    c.flush_table-next.result.0.member l.invariant.keeps c.flush_table-next.ensures.keeps

pub returns-in-Some-clause-tallies : goal.returns-in-Some-clause-tallies
returns-in-Some-clause-tallies g c = λ none. absurd (none-some c.in-Some.fault (sym none))

pub returns-in-Some-clause-paid : goal.returns-in-Some-clause-paid
returns-in-Some-clause-paid g c =
    let t = c.args.path.now.table in let l = c.loop-number in let I = l.invariant in
    paid_then t.table.shared.table_id t.size c.args.seat l.seat c.args.tally l.tally
    (view_of c.flush_table-next.result.0.member).trail I.keeps I.most I.tallies
    c.flush_table-next.ensures.paid

pub returns-clause-tallies : goal.returns-clause-tallies
returns-clause-tallies g c = λ none. c.loop-number.invariant.tallies

pub returns-clause-paid : goal.returns-clause-paid
returns-clause-paid g c = λ all.
    let l = c.loop-number in let I = l.invariant in let w = c.args.seat.member.number in
    let trail = (view_of l.seat.member).trail in
    subst (λ (k : ℕ). ArePaid (Some k) w trail) I.most
    (all_paid w l.tally trail (I.tallies all))

pub flush_table-next-requires-clause-spends : goal.flush_table-next-requires-clause-spends
flush_table-next-requires-clause-spends g c = let issued = c.loop-number.invariant.issued in
    let low = c.requires.spends in let inside = c.loop-number-test.true in
    omega (arith, issued, low, inside)

pub returns-in-Some-clause-issued : goal.returns-in-Some-clause-issued
returns-in-Some-clause-issued g c = let issued = c.loop-number.invariant.issued in
    let few = c.flush_table-next.ensures.issued in let inside = c.loop-number-test.true in
    omega (arith, issued, few, inside)

pub returns-in-Some-clause-spends : goal.returns-in-Some-clause-spends
returns-in-Some-clause-spends g c = λ none. absurd (none-some c.in-Some.fault (sym none))

pub returns-clause-issued : goal.returns-clause-issued
returns-clause-issued g c = let issued = c.loop-number.invariant.issued in
    let end = c.loop-number.auto.number-end in omega (arith, issued, end)

pub returns-clause-spends : goal.returns-clause-spends
returns-clause-spends g c = λ none. c.loop-number.invariant.spends
