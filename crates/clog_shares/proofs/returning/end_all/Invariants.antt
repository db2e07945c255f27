use Rattle.std.proofs.Common.{◌≡◌, ◌⊎◌, ℕ, ◌+◌, ◌≤◌, List, Option, length, vec_capacity, vec_len}
use Rattle.std.specs.Prelude.{Contains}
use Rattle.clog_mutation.specs.declared.mutation.Mutation.{Mutation}
use Rattle.clog_shares.specs.declared.worker.Worker.{Worker}
use Rattle.clog_shares.specs.Crews.{HaveLogged}
use Rattle.clog_shares.specs.Sealing.{HaveWaited, WaitShares}
use Rattle.clog_shares.specs.Shares.{LacksMemoryAtMost}
use Rattle.clog_shares.proofs.Gathering.{Gathers}
use Rattle.clog_shares.proofs.returning.end_all.Given as goal

abbrev pub invariant-loop-worker : goal.invariant-loop-worker
invariant-loop-worker g l = let t = l.path.table in record {
  goes : (flush : Option ℕ) (mutations : List Mutation)
      → HaveLogged t.table.shared.table_id t.size flush mutations l.fn.workers.items
      → Gathers t.table.shared.table_id t.size flush mutations l.worker-iterator.rest.items
      l.seats.items l.first;
  waited : WaitShares l.fn.workers.items → WaitShares l.worker-iterator.rest.items
      × HaveWaited l.seats.items;
  cause : (w : Worker g.row.K.Denot) → Contains l.fn.workers.items w
      → Contains l.worker-iterator.rest.items w
      ⊎ (LacksMemoryAtMost l.first → LacksMemoryAtMost w.fault);
  room : vec_len l.seats + length l.worker-iterator.rest.items ≤ vec_capacity l.seats;
  count : l.worker-iterator.rest.len ≡ length l.worker-iterator.rest.items;
}
