use Rattle.std.proofs.Common.{◌≡◌, ◌++◌, List, IfSome}
use Rattle.clog_folder.specs.Passing.{IsUntouched}
use Rattle.replay_merge.specs.declared.piped.Batch.{Batch}
use Rattle.replay_merge.specs.Entries.{all_items}
use Rattle.replay_merge.specs.Places.{AreGiven}
use Rattle.replay_merge.proofs.places.stream_places.Given as goal

-- The disk is as it was, has counted no fault, and what was taken of the names gave these items.
abbrev pub invariant-loop-place : goal.invariant-loop-place
invariant-loop-place g l = record {
  can_next : (goal.iterator-loop-place g).can_next l.place-iterator;
  is_finite : (goal.iterator-loop-place g).is_finite l.place-iterator;
  keeps : IsUntouched g.D.Disk.files g.D.Disk.changes g.D.Disk.leaves g.D.Disk.moment
      g.D.Disk.since g.D.Disk.read_at g.D.Disk.lasted_at g.D.Disk.faults l.fn.disk l.disk;
  quiet : g.D.Disk.faults l.disk ≡ g.D.Disk.faults l.fn.disk;
  parts : l.fn.names.entries ≡ l.yielded ++ l.place-iterator;
  can_put : g.P.Sink.can_put l.to;
  given : (batches : List Batch) × g.P.Sink.goes_on l.fn.to batches l.to
      × IfSome (g.D.Disk.files l.fn.disk) (λ held.
      AreGiven l.ignore l.greatest held l.yielded (all_items batches));
}
