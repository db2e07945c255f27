use Rattle.path_threads.specs.Crews.{AreWrites}
use Rattle.path_threads.proofs.preparing.writes_of.Given as goal

abbrev pub invariant-loop-place : goal.invariant-loop-place
invariant-loop-place l = AreWrites l.fn.sizes l.writes.items
