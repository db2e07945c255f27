use Rattle.std.proofs.Common.{ℕ, ◌+◌, ◌∷◌, length, sym, ap, subst, take, arith}
use Rattle.clog_spec.specs.Sizes.{most_tables}
use Rattle.clog_due.specs.Counting.{AreTables, IsTableOf}
use Rattle.clog_due.proofs.TableLogs.{table_more}
use Rattle.clog_due.proofs.table_log.grown_tables.Goals as goal

pub loop-table-preserved : goal.loop-table-preserved
loop-table-preserved c =
    let l = c.loop-table in
    let I = l.invariant in
    let notes = c.args.notes.now in
    let files = c.args.files.now in
    let log = c.in-Some.table in
    let rest = c.next.new.self.rest.items in
    let steps = c.in-Some.ensures.steps in
    let left : AreTables I.next most_tables (take c.args.first_note notes)
    (take c.args.first_file files) (log ∷ rest) =
    subst (AreTables I.next most_tables (take c.args.first_note notes)
    (take c.args.first_file files)) steps.0 I.left in
    let now = c.grow.new.self in
    record {
      next = I.next + 1;
      done = subst (AreTables 0 (I.next + 1) notes files) (sym c.in_ok-push.ensures.items)
          (table_more 0 I.next notes files l.grown.items now I.done
          (subst (λ (t : ℕ). IsTableOf t notes files now) left.0.table_is c.in_ok-grow.ensures));
      left = left.1;
      count = let short = ap length steps.0 in omega (arith, short, steps.1, I.count);
    }
