use Rattle.std.proofs.Common.{◌≡◌, ℕ, suc, ◌+◌, Some, sym, ap, ◌∙◌, subst, arith}
use Rattle.clog_base.specs.declared.position.Key.{Key}
use Rattle.op_core.specs.declared.count.Order.TheVariants.{Write}
use Rattle.path_core.specs.declared.event.Carried.TheVariants.{Applied}
use Rattle.path_core.specs.declared.event.Event.TheVariants.{Close}
use Rattle.path_rule.specs.Calls.{Did}
use Rattle.write_path.specs.Applies.{IsAppliedBelow, IsUnappliedFrom}
use Rattle.write_path.specs.Ends.{IsUntriedFrom}
use Rattle.write_path.proofs.AppliedAt.{
  applied_untouched,
  are_applied,
  still_itself,
  still_then,
}
use Rattle.write_path.proofs.seats.WritePath.end_write.Goals as goal

pub loop-table-init : goal.loop-table-init
loop-table-init g c = let w = c.args.self.now.table in record {
  same = still_itself w.table.shared.table_id w.size c.args.seat c.requires.table;
  applied = λ t low. absurd (omega (arith, low));
  untried = c.requires.untried;
  holds = c.requires.holds;
  unapplied = c.requires.unapplied;
}

pub loop-table-preserved-then-not-touches : goal.loop-table-preserved-then-not-touches
loop-table-preserved-then-not-touches g c =
    let s = c.loop-table.seat in let I = c.loop-table.invariant in
    let up : suc c.loop-table.table ≡ c.loop-table.table + 1 = omega arith in record {
      same = I.same;
      applied = subst (λ k. IsAppliedBelow k s) up (applied_untouched c.loop-table.table s
          (sym c.touches.ensures ∙ c.if-not-touches.true) I.applied);
      untried = λ t low. I.untried t (omega (arith, low));
      holds = I.holds;
      unapplied = λ a h is. let low = I.unapplied a h is in omega (arith, low);
    }

pub loop-table-preserved : goal.loop-table-preserved
loop-table-preserved g c =
    let t = c.args.self.now.table in let I = c.loop-table.invariant in let P = c.place_at-seat in
    let up : suc c.loop-table.table ≡ c.loop-table.table + 1 = omega arith in record {
      same = still_then t.table.shared.table_id t.size c.args.seat c.loop-table.seat P.result I.same
          P.ensures.same;
      applied = subst (λ k. IsAppliedBelow k P.result) up (P.ensures.applied I.applied);
      untried = subst (λ k. IsUntriedFrom k P.result) up P.ensures.untried;
      holds = P.ensures.holds;
      unapplied = subst (λ k. IsUnappliedFrom k P.result) up P.ensures.unapplied;
    }

pub returns-clause-ends : goal.returns-clause-ends
returns-clause-ends g c =
    let s = c.loop-table.seat in let I = c.loop-table.invariant in let F = c.finish.ensures in
    let size = c.args.self.now.table.size in
    let many = ap (λ z. z.tables) I.same.member.0.1 in
    let end = c.loop-table-test.false in let sized = ap (λ z. z.tables) c.size-table-end.ensures in
    let few = c.args.self.now.table.fits.few_tables in record {
      before = s.member.seat.me.0;
      tried = I.same.tried;
      tables = s.noted ∙ ap (λ (n : ℕ). Some n) I.same.tables;
      claim = s.claims ∙ (λ i. Some (record {
        start = ap (λ (k : Key). k.0) I.same.start i;
        end = ap (λ (k : Key). k.0) I.same.end i;
      }));
      places = F.step.0;
      are = F.step.2;
      applied = are_applied s size.tables many
          (λ t low touched. I.applied t (omega (arith, low, end, sized, few)) touched);
      found = F.step.1;
      did = subst (λ (q : ℕ × ℕ). Did s.member.seat.me.0 q.0
          (Close q.0 Write q.1 (Applied F.step.0)) F.step.1 c.finish.result.member.seat.me.0)
          (λ i. (I.same.member.1 i, I.same.writing i)) F.step.3;
      list = F.list ∙ I.same.list;
    }
