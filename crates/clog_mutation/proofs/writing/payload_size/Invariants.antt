use Rattle.std.proofs.Common.{◌≡◌, ◌+◌, ◌*◌, ◌^◌, ◌≤◌, length, take}
use Rattle.std.specs.List.{flat_map}
use Rattle.clog_mutation.specs.Payload.{update_bytes}
use Rattle.clog_mutation.proofs.writing.payload_size.Given as goal

abbrev pub invariant-loop-update : goal.invariant-loop-update
invariant-loop-update l = record {
  exact : l.size ≡ 4 + length l.mutation.key + length
      (flat_map update_bytes (take l.update-index l.mutation.updates));
  bound : l.size ≤ 2 ^ 65 + 2 ^ 66 * l.update-index;
}
