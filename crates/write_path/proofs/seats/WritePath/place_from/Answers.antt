use Rattle.std.proofs.Common.{◌∙◌}
use Rattle.write_path.proofs.PlacedAt.{same_then}
use Rattle.write_path.proofs.seats.WritePath.place_from.Goals as goal

pub returns-in-Yes-clause-same : goal.returns-in-Yes-clause-same
returns-in-Yes-clause-same g c = let t = c.args.self.now.table in
    same_then t.table.shared.table_id t.size c.args.seat c.loop-memtable.seat c.accept.new.seat
    c.loop-memtable.invariant.same c.accept.ensures.same

pub loop-memtable-preserved : goal.loop-memtable-preserved
loop-memtable-preserved g c = let t = c.args.self.now.table in
    let I = c.loop-memtable.invariant in let A = c.in-Later.ensures.answer in record {
      same = same_then t.table.shared.table_id t.size c.args.seat c.loop-memtable.seat
          c.accept.new.seat I.same c.accept.ensures.same;
      low = A.3;
      tried = A.2;
      others = λ u apart. c.accept.ensures.others u apart ∙ I.others u apart;
    }
