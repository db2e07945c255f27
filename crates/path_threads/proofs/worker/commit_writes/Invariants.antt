use Rattle.std.proofs.Common.{◌≡◌}
use Rattle.path_threads.specs.Crews.{AreWrites, IsSeated, number_of}
use Rattle.path_threads.proofs.worker.commit_writes.Given as goal

-- the worker has its seat, and its number, and the writes that are left take no more memory
abbrev pub invariant-loop-write : goal.invariant-loop-write
invariant-loop-write g l = let t = l.path.table in record {
  seated : IsSeated t.table.shared.table_id t.size l.worker;
  number : number_of l.worker ≡ number_of l.fn.worker;
  left : AreWrites l.fn.sizes l.write-iterator.rest.items;
}
