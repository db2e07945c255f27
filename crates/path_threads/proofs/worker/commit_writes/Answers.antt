use Rattle.std.proofs.Common.{sym, ◌∙◌, subst, refl}
use Rattle.std.proofs.lemmas.List.Elements.{All-head, All-tail}
use Rattle.path_threads.specs.Crews.{AreWrites, IsWrite}
use Rattle.path_threads.proofs.worker.commit_writes.Goals as goal

pub loop-write-init : goal.loop-write-init
loop-write-init g c = record {
  seated = c.requires.seated;
  number = refl;
  left = subst (AreWrites c.args.sizes) (sym c.into_iter-write-iterator.ensures.into_iter_gives.0)
      c.requires.writes;
}

pub commit_place-requires-clause-write : goal.commit_place-requires-clause-write
commit_place-requires-clause-write g c =
    let rest = c.next.new.self.rest.items in
    All-head (IsWrite c.args.sizes) c.in-Some.write rest
    (subst (AreWrites c.args.sizes) c.in-Some.ensures.steps.0 c.loop-write.invariant.left)

pub loop-write-preserved : goal.loop-write-preserved
loop-write-preserved g c =
    let I = c.loop-write.invariant in
    let rest = c.next.new.self.rest.items in record {
      seated = c.commit_place.ensures.seated;
      number = c.commit_place.ensures.number ∙ I.number;
      left = All-tail (IsWrite c.args.sizes) c.in-Some.write rest
          (subst (AreWrites c.args.sizes) c.in-Some.ensures.steps.0 I.left);
    }
