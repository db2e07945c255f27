use Rattle.std.proofs.Common.{◌≡◌, List, length, sym, ap, subst, arith}
use Rattle.path_threads.specs.declared.worker.Worker.{Worker}
use Rattle.path_threads.specs.Crews.{AreCrew, AreReady}
use Rattle.path_threads.proofs.Crews.{written_back}
use Rattle.path_threads.proofs.running.prepared_crew.Goals as goal

pub returns : goal.returns
returns g c = let t = c.args.path.now.table in
    let lent = c.as_mut_slice.ensures.value in
    let count : length c.as_mut_slice.result.now ≡ length c.in-Ok.workers.items = ap length lent in
    subst (λ (ws : List (Worker g.row.K.Denot)).
    AreReady t.table.shared.table_id t.size c.args.sizes ws)
    (sym (written_back c.in-Ok.workers.len c.prepare_all.new.workers _
    (omega (arith, count, c.prepare_all.auto.workers, c.in-Ok.workers.ok))))
    (c.prepare_all.ensures t.table.shared.table_id t.size
    (subst (λ (ws : List (Worker g.row.K.Denot)). AreCrew t.table.shared.table_id t.size ws)
    (sym lent) c.in-Ok.ensures))
