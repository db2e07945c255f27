use Rattle.op_core.specs.declared.count.Order.TheVariants.{Write}
use Rattle.write_path.proofs.Growing.{keeps_first, keeps_on, only_looked, started}
use Rattle.write_path.proofs.seats.WritePath.start.Goals as goal

pub loop-init : goal.loop-init
loop-init g c = let t = c.args.self.now.table in record {
  next = tt;
  finite = tt;
  keeps = keeps_first t.table.shared.table_id t.size c.args.seat.member
      (c.requires.0, c.requires.1);
}

pub returns-in-Ok : goal.returns-in-Ok
returns-in-Ok g c = let t = c.args.self.now.table in let m = c.loop.seat.member in
    let r = c.in-Ok in let b = r.begun in (
      keeps_on t.table.shared.table_id t.size c.args.seat.member m b.member c.loop.invariant.keeps
          (started t.table.shared.table_id t.size m b.member r.ensures.same.0 b.group
          r.ensures.step),
      r.ensures.same.1,
    )

pub loop-preserved : goal.loop-preserved
loop-preserved g c = let t = c.args.self.now.table in let m = c.loop.seat.member in
    let r = c.in-Err in let m' = r.refused.member in record {
      next = tt;
      finite = tt;
      keeps = keeps_on t.table.shared.table_id t.size c.args.seat.member m m'
          c.loop.invariant.keeps (only_looked t.table.shared.table_id t.size m m' r.ensures.same
          Write r._seen.looked r._seen.found r.ensures.step);
    }
