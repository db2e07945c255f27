use Rattle.std.proofs.Common.{◌≡◌, ◌++◌, take}
use Rattle.std.specs.List.{flat_map, AllByRecursion}
use Rattle.clog_mutation.specs.Payload.{update_bytes}
use Rattle.clog_mutation.specs.Stored.{IsStoredUpdate}
use Rattle.clog_mutation.proofs.writing.put_updates.Given as goal

abbrev pub invariant-loop-update : goal.invariant-loop-update
invariant-loop-update l = record {
  bytes : l.out.items ≡ l.fn.out.items ++ flat_map update_bytes (take l.update-index l.updates);
  stored : AllByRecursion IsStoredUpdate (take l.update-index l.updates);
}
