use Rattle.std.proofs.Common.{◌≡◌, [], length}
use Rattle.std.specs.List.{All}
use Rattle.clog_shares.specs.declared.worker.Worker.{Worker}
use Rattle.clog_shares.proofs.dealing.idle_crew.Given as goal

abbrev pub invariant-loop : goal.invariant-loop
invariant-loop g l = record {
  count : length l.workers.items ≡ l.counter;
  idle : All (λ (w : Worker g.row.K.Denot). (w.writes.items ≡ []) × (w.counts.items ≡ []))
      l.workers.items;
}
