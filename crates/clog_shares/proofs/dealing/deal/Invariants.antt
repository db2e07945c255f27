use Rattle.std.proofs.Common.{◌≡◌, length}
use Rattle.clog_shares.proofs.LineWrites.{DealsWrites}
use Rattle.clog_shares.proofs.dealing.deal.Given as goal

abbrev pub invariant-loop-line_write : goal.invariant-loop-line_write
invariant-loop-line_write g l = record {
  goes : DealsWrites l.fn.sizes l.fn.flush_at l.fn.mutations.items
      l.line_write-iterator.rest.items l.line l.workers.items;
  count : l.line_write-iterator.rest.len ≡ length l.line_write-iterator.rest.items;
}
